-- The meter after a record, an item or blocks were opened or closed, or the fault that refuses them. This
-- project's own.
use Rattle.std.specs.Prelude.{ℕ, ◌+◌, ◌-◌, nat_le, if◌then◌else◌, Result, Ok, Err}
use Rattle.spec_avro.specs.declared.meter.Meter.{Meter}
use Rattle.spec_avro.specs.declared.limits.TheConstants.{MOST_DEPTH, MOST_UNITS}
use Rattle.spec_decoding.specs.declared.fault.Fault.{Fault}
use Rattle.spec_decoding.specs.declared.fault.Fault.TheVariants as fault
use Rattle.spec_avro.specs.declared.malformed.MalformedKind.TheVariants.{TooDeep, TooMany}
use Rattle.spec_avro.specs.Defect.{Malformed}

-- inside a record that begins at an offset: one deeper, and one unit more
abbrev pub opened_record : ℕ → Meter → Result Meter Fault
opened_record at m =
    if nat_le MOST_DEPTH m.depth then Err (fault.Malformed TooDeep at)
    else if nat_le MOST_UNITS m.units then Err (fault.Malformed TooMany at)
    else Ok (record { depth = m.depth + 1; units = m.units + 1 })

-- at an array item or a map pair that begins at an offset: one unit more
abbrev pub opened_item : ℕ → Meter → Result Meter Fault
opened_item at m =
    if nat_le MOST_UNITS m.units then Err (fault.Malformed TooMany at)
    else Ok (record { depth = m.depth; units = m.units + 1 })

-- inside an array or a map that begins at an offset: one deeper
abbrev pub opened_blocks : ℕ → Meter → Result Meter Fault
opened_blocks at m =
    if nat_le MOST_DEPTH m.depth then Err (fault.Malformed TooDeep at)
    else Ok (record { depth = m.depth + 1; units = m.units })

-- after an array or a map
abbrev pub closed_blocks : Meter → Meter
closed_blocks m = record { depth = m.depth - 1; units = m.units }
