-- What a client's calls have made of its session. All of this is this project's own.
use Rattle.std.specs.Prelude.{ℕ, Bool, List}
use Rattle.spec_machine.specs.Program.{Program}

-- the program that the client asked for, and what it knows of the session from its calls
pub record Account : Type 0 where
  pub program : Program
  -- the pieces that were taken, joined
  pub sent : List ℕ
  -- whether no more may come
  pub closed : Bool
  -- the breakpoints, in the order in which they were set
  pub breaks : List ℕ
  -- the most rows that an answer reported
  pub seen : ℕ
