-- What a thief knows of each deque. All of this is this project's own.
use Rattle.std.specs.Prelude.{◌≡◌, ℕ, List, [], ◌∷◌, Option, Some, None, slice_get}
use Rattle.crossbeam_deque.specs.Handles.{IsPassOf, stealer_deque, view, Pass}
use Rattle.crossbeam_deque.specs.declared.handles.Stealer.{Stealer}
use Rattle.std.specs.declared.alloc.Global.{Global}
use Rattle.session_pool.specs.declared.seat.Tally.{Tally}
use Rattle.session_pool.specs.declared.seat.Balanced.{Balanced}

-- a deque as others see it
abbrev pub Thief : Type 0
Thief = Stealer ℕ Global Tally Balanced

-- what a thief knows of one deque
abbrev pub JobPass : Type 0
JobPass = Pass ℕ Tally Global

-- a number that was answered, or none
abbrev pub listed : Option ℕ → List ℕ
listed None = []
listed (Some slot) = slot ∷ []

-- what a pass has taken, where there is one
abbrev pub taken_by_pass : Option JobPass → List ℕ
taken_by_pass None = []
taken_by_pass (Some pass) = (view pass).taken

-- each pass is one of the deque at its place
abbrev pub ArePassesOf : List Thief → List JobPass → Type 0
ArePassesOf stealers passes = (k : ℕ) (s : Thief) (p : JobPass) → slice_get stealers k ≡ Some s
    → slice_get passes k ≡ Some p → IsPassOf (stealer_deque s) p

-- each pass is one of the deque at its place, and has taken nothing
pub record AreEmptyPasses (stealers : List Thief) (passes : List JobPass) : Type 0 where
  pub each : ArePassesOf stealers passes
  pub empty : (k : ℕ) → taken_by_pass (slice_get passes k) ≡ []
