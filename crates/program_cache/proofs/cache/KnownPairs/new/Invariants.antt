use Rattle.std.proofs.Common.{◌≡◌, length}
use Rattle.program_cache.specs.Known.{AreTagged}
use Rattle.program_cache.proofs.cache.KnownPairs.new.Given as goal

abbrev pub invariant-loop : goal.invariant-loop
invariant-loop l = (length l.slots.items ≡ l.counter) × (l.tag ≡ l.initial.tag) × AreTagged l.tag.numbers l.slots.items
