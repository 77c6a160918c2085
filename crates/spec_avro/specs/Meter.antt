-- How deep a message nests, and how many units it has.
-- This project's own rules: the standard has no such limits.
use Rattle.std.specs.Prelude.{◌≡◌, ◌≤◌, ◌<◌, ◌⊎◌, ℕ, ◌+◌, ◌-◌}
use Rattle.spec_avro.specs.declared.meter.Meter.{Meter}
use Rattle.spec_avro.specs.declared.limits.TheConstants.{MOST_DEPTH, MOST_UNITS}
use Rattle.spec_avro.specs.declared.malformed.MalformedKind.TheVariants.{TooDeep, TooMany}
use Rattle.spec_avro.specs.Defect.{Defect, Malformed}

-- before a message
abbrev pub start : Meter
start = record { depth = 0; units = 0 }

-- `depth` more levels and `units` more units stay within the limits after a meter, and the meter after them.
pub record Counts (depth units : ℕ) (m after : Meter) : Type 0 where
  pub deep : depth ≤ MOST_DEPTH - m.depth
  pub many : units ≤ MOST_UNITS - m.units
  pub same_depth : after.depth ≡ m.depth
  pub counted : after.units ≡ m.units + units

-- ---- meters as relations, which share nothing with the functions above

-- a record begins, and the meter inside it
pub record OpensRecord (m within : Meter) : Type 0 where
  pub shallow : m.depth < MOST_DEPTH
  pub few : m.units < MOST_UNITS
  pub deeper : within.depth ≡ m.depth + 1
  pub counted : within.units ≡ m.units + 1

-- the record would be too deep; or it would not, and be one too many
abbrev pub RefusesRecord : Meter → Defect → Type 0
RefusesRecord m d =
    ((MOST_DEPTH ≤ m.depth) × (d ≡ Malformed TooDeep 0))
    ⊎ ((m.depth < MOST_DEPTH) × (MOST_UNITS ≤ m.units) × (d ≡ Malformed TooMany 0))

-- an item or a pair begins, and the meter at it
pub record OpensItem (m within : Meter) : Type 0 where
  pub few : m.units < MOST_UNITS
  pub same_depth : within.depth ≡ m.depth
  pub counted : within.units ≡ m.units + 1

abbrev pub RefusesItem : Meter → Defect → Type 0
RefusesItem m d = (MOST_UNITS ≤ m.units) × (d ≡ Malformed TooMany 0)

-- an array or a map begins, and the meter inside it
pub record OpensBlocks (m within : Meter) : Type 0 where
  pub shallow : m.depth < MOST_DEPTH
  pub deeper : within.depth ≡ m.depth + 1
  pub same_units : within.units ≡ m.units

abbrev pub RefusesBlocks : Meter → Defect → Type 0
RefusesBlocks m d = (MOST_DEPTH ≤ m.depth) × (d ≡ Malformed TooDeep 0)
