-- What a seat has taken of each deque after several steals, one after another.
use Rattle.std.proofs.Common.{◌≡◌, ◌==◌, ℕ, List, [], ◌∷◌, ◌++◌, if◌then◌else◌, arith}
use Rattle.std.proofs.lemmas.Grind.{common_steps}
use Rattle.session_pool.specs.declared.seat.JobSeat.{JobSeat}
use Rattle.session_pool.specs.Passes.{listed}
use Rattle.session_pool.specs.JobSeats.{stolen_by}
use Rattle.session_pool.specs.Calls.{Steals}
use Rattle.session_pool.specs.Thefts.{StealEach, Theft, stolen_from}
use Rattle.session_pool.specs.Thefts.StealEach.{none, more}

-- one steal
stolen_once : (from : ℕ) (theft : Theft) (old new : JobSeat) → Steals theft.from theft.answer old new → stolen_by new from ≡ stolen_by old from ++ (if theft.from == from then listed theft.answer else [])
stolen_once from theft old new h = grind (arith, common_steps, h.stolen, h.others)

-- a seat has taken of each deque what it had, and then what the steals took there
pub stolen_after : (from : ℕ) (thefts : List Theft) (old new : JobSeat) → StealEach thefts old new → stolen_by new from ≡ stolen_by old from ++ stolen_from from thefts
stolen_after from [] old new (none _) = grind (arith, common_steps)
stolen_after from (theft ∷ thefts) old new (more _ _ _ mid _ h rest) = grind (arith, common_steps, stolen_once from theft old mid h, stolen_after from thefts mid new rest)
