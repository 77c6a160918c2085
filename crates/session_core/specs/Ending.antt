-- How the sessions of a world end. All of this is this project's own.
use Rattle.std.specs.Prelude.{◌≡◌, ℕ, Some, slice_get}
use Rattle.session_core.specs.SessionEnding.{SessionLeadsToOutcome}
use Rattle.spec_sessions.specs.World.{Held, World}
use Rattle.session_core.specs.World.{IsCodeOf}

-- a session's program is that of its pair; its machine is that program run alone on the bytes that came, as many rows
-- on as it counts, in a state that leads to the outcome of these bytes for this pair
pub record EndsWithOutcome (world : World) (held : Held) : Type 0 where
  pub pair : IsCodeOf world.commands held.writer held.reader held.session.program
  pub leads : SessionLeadsToOutcome pair.written.nodes pair.read.nodes held.session

abbrev pub SessionEndsWithOutcome : World → ℕ → Type 0
SessionEndsWithOutcome world s = (held : Held) → slice_get world.sessions s ≡ Some held → EndsWithOutcome world held
