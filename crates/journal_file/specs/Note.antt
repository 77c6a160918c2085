-- What a note says of a call. This project's own.
use Rattle.std.specs.Prelude.{ℕ, List, ◌∷◌, slice_index, ◌==◌, if◌then◌else◌}
use Rattle.sqlite_disk.specs.Events.{Event}

-- the call with these numbers and bytes
abbrev pub event_of : List ℕ → List ℕ → Event
event_of numbers bytes = (
  slice_index numbers 0,
  slice_index numbers 1,
  slice_index numbers 2,
  slice_index numbers 3 == 1,
  if slice_index numbers 0 == 6 then slice_index numbers 4 ∷ slice_index numbers 5 ∷ bytes else bytes,
)
