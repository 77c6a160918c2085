-- The rule of a deque of numbers. All of this is this project's own.
use Rattle.std.specs.Prelude.{◌≡◌, ◌≢◌, ℕ, ◌+◌, ◌==◌, if◌then◌else◌, List, [], ◌∷◌, ◌++◌}
use mathlib.Core.Option.{some}
use lib.ListN.{get_elem?}
use Rattle.session_pool.specs.declared.seat.Tally.{Tally}

-- what was put and what was taken
abbrev pub tally : List ℕ → List ℕ → Tally
tally put taken = record { put = put; taken = taken }

-- how often a number is in a list
abbrev pub times : ℕ → List ℕ → ℕ
times slot [] = 0
times slot (x ∷ xs) = (if x == slot then 1 else 0) + times slot xs

-- a sum over all tallies
abbrev pub total : (Tally → ℕ) → List Tally → ℕ
total count [] = 0
total count (t ∷ ts) = count t + total count ts

-- One list has some of another's numbers, in its order.
pub data IsSubsequence : List ℕ → List ℕ → Type 0 where
  none : IsSubsequence [] []
  taken : (x : ℕ) (xs ys : List ℕ) → IsSubsequence xs ys → IsSubsequence (x ∷ xs) (x ∷ ys)
  passed : (y : ℕ) (xs ys : List ℕ) → IsSubsequence xs ys → IsSubsequence xs (y ∷ ys)

-- Each number was put as often as it was taken and is there; and the owner alone, whose tally is the first, has put.
pub record Balances (slots : List ℕ) (tallies : List Tally) : Type 0 where
  pub balance : (slot : ℕ) → total (λ t. times slot t.put) tallies
      ≡ total (λ t. times slot t.taken) tallies + times slot slots
  pub owner : (port : ℕ) (t : Tally) → get_elem? tallies port ≡ some t → port ≢ 0 → t.put ≡ []

-- Numbers leave in the order in which the owner put them: what it put is what has left, and then what is there. Of what
-- has left each took some, in that order.
pub record LeavesInOrder (slots : List ℕ) (tallies : List Tally) : Type 0 where
  pub owner : Tally
  pub first : get_elem? tallies 0 ≡ some owner
  pub left : List ℕ
  pub put : owner.put ≡ left ++ slots
  pub each : (port : ℕ) (t : Tally) → get_elem? tallies port ≡ some t → IsSubsequence t.taken left

-- the rule of a deque
abbrev pub IsInOrder : List ℕ → List Tally → Type 0
IsInOrder slots tallies = Balances slots tallies × LeavesInOrder slots tallies
