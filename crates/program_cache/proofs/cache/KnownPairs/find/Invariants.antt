use Rattle.std.proofs.Common.{◌≡◌}
use Rattle.program_cache.proofs.cache.KnownPairs.find.Given as goal

abbrev pub invariant-loop-step : goal.invariant-loop-step
invariant-loop-step l = (l.writer ≡ l.initial.writer) × (l.reader ≡ l.initial.reader)
