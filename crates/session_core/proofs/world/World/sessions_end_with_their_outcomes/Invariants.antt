-- The law holds of the sessions so far.
use Rattle.std.proofs.Common.{ℕ, ◌<◌}
use Rattle.session_core.specs.Ending.{SessionEndsWithOutcome}
use Rattle.session_core.proofs.world.World.sessions_end_with_their_outcomes.Given as goal

abbrev pub invariant-loop-session : goal.invariant-loop-session
invariant-loop-session l = (s : ℕ) → s < l.session → SessionEndsWithOutcome l.self s
