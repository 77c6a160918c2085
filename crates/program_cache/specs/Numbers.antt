-- The numbers of pairs of ids. All of this is this project's own.
use Rattle.std.specs.Prelude.{◌≡◌, ◌<◌, ◌≤◌, ℕ, ◌+◌, ◌*◌, ◌-◌}
use Rattle.spec_registry.specs.declared.limits.TheConstants.{MOST_SCHEMAS}
use Rattle.program_cache.specs.declared.place.Place.{Place}
use Rattle.program_cache.specs.declared.compiled.TheConstants.{CELLS}

-- all pairs of the writer with id 1 come first, in the order of the readers' ids
abbrev pub pair_number : ℕ → ℕ → ℕ
pair_number writer reader = (writer - 1) * MOST_SCHEMAS + (reader - 1)

-- the number whose digits are the four of a place
abbrev pub number_of_place : Place → ℕ
number_of_place place =
    ((place.first * CELLS + place.second) * CELLS + place.third) * CELLS + place.fourth

-- an id that a schema may have
abbrev pub IsId : ℕ → Type 0
IsId id = (0 < id) × (id ≤ MOST_SCHEMAS)

-- pairs of ids with one number are one pair
abbrev pub HaveTheirOwnNumbers : Type 0
HaveTheirOwnNumbers = (writer reader other_writer other_reader : ℕ) → IsId writer → IsId reader
    → IsId other_writer → IsId other_reader → pair_number writer reader ≡ pair_number other_writer other_reader
    → (writer ≡ other_writer) × (reader ≡ other_reader)
