-- Several steals of one seat, one after another. All of this is this project's own.
use Rattle.std.specs.Prelude.{ℕ, ◌==◌, if◌then◌else◌, List, [], ◌∷◌, ◌++◌, Option}
use Rattle.session_pool.specs.declared.seat.JobSeat.{JobSeat}
use Rattle.session_pool.specs.Passes.{listed}
use Rattle.session_pool.specs.Calls.{Steals}

-- whose deque a steal looked into, and what it answered
pub record Theft : Type 0 where
  pub from : ℕ
  pub answer : Option ℕ

-- these steals, one after another, lead from one seat to another
pub data StealEach : List Theft → JobSeat → JobSeat → Type 0 where
  none : (seat : JobSeat) → StealEach [] seat seat
  more : (theft : Theft) (thefts : List Theft) (old mid new : JobSeat) → Steals theft.from theft.answer old mid
      → StealEach thefts mid new → StealEach (theft ∷ thefts) old new

-- what steals took from one worker's deque, first to last
abbrev pub stolen_from : ℕ → List Theft → List ℕ
stolen_from from [] = []
stolen_from from (theft ∷ thefts) =
    (if theft.from == from then listed theft.answer else []) ++ stolen_from from thefts
