-- An answer, and how many of its bytes were sent. All of this is this project's own.
use Rattle.std.specs.Prelude.{ℕ, List}

-- the bytes of an answer, and how many of them were sent
pub record Sent : Type 0 where
  pub bytes : List ℕ
  pub sent : ℕ
