-- As many slots as turns, each with the tag of the cells.
use Rattle.std.proofs.Common.{◌≡◌, ℕ, ◌<◌, length, slice_index_or}
use Rattle.boxcar.specs.Slot.{Named}
use Rattle.upstream_schemas.proofs.known.KnownNamings.new.Given as goal

abbrev pub invariant-loop : goal.invariant-loop
invariant-loop g l = (length l.slots.items ≡ l.counter) × (l.tag ≡ l.initial.tag)
    × ((j : ℕ) (d : Named) → j < length l.slots.items → (slice_index_or l.slots.items j d).tag ≡ l.tag.numbers)
