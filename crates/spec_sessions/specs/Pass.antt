-- A client's right to a session. All of this is this project's own.
use Rattle.std.specs.Prelude.{ℕ}
use Rattle.spec_sessions.specs.ProgramPair.{Pair}

-- the slot that the session is in, and the pair of schemas with the program that it runs
pub record Pass : Type 0 where
  pub slot : ℕ
  pub pair : Pair
