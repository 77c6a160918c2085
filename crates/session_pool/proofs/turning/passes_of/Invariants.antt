use Rattle.std.proofs.Common.{◌≡◌, vec_len}
use Rattle.session_pool.specs.Passes.{AreEmptyPasses}
use Rattle.session_pool.proofs.turning.passes_of.Given as goal

abbrev pub invariant-loop-number : goal.invariant-loop-number
invariant-loop-number l = (vec_len l.passes ≡ l.number) × AreEmptyPasses l.stealers l.passes.items
