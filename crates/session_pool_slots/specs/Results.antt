-- What the calls that are made of such steps come to, as contracts say it.
use Rattle.std.specs.Prelude.{◌≡◌, ◌≢◌, ◌<◌, ℕ, ◌+◌, Bool, false, List, [], ◌∷◌, ◌++◌, map, length, All, Some, None, ⊤}
use Rattle.session_pool_slots.specs.Words.{IsWordOf, free, ready, slots, with_worker}
use Rattle.session_pool_slots.specs.Views.{FoundWord, PassData, View, found_word, note_of, pass_of}
use Rattle.session_pool_slots.specs.Steps.{Seat, handing, new_pass, pass_in, pass_out}

-- ---- what was found

-- the words that were found of a slot, one after another
abbrev pub words_of : ℕ → List ℕ → List FoundWord
words_of slot words = map (found_word slot) words

-- the words that were found of each slot in order, from this slot on
abbrev pub found_of : ℕ → List (List ℕ) → List FoundWord
found_of slot [] = []
found_of slot (words ∷ more) = words_of slot words ++ found_of (slot + 1) more

-- the word of a slot was found to be this
pub record Finds {S A : Type 0} (v : View S A) (slot word : ℕ) (w : View S A) : Type 0 where
  pub before : List FoundWord
  pub after : List FoundWord
  pub found : w.found ≡ v.found ++ (before ++ found_word slot word ∷ after)

-- The slots below this one were looked at in order, and the words that were found of each are as `IsUnfit` says; then
-- these words of this slot were found, and no others.
pub record Searched {S A : Type 0} (IsUnfit : List ℕ → Type 0)
    (v : View S A) (slot : ℕ) (words : List ℕ) (w : View S A) : Type 0 where
  -- the words of each slot below
  pub below : List (List ℕ)
  pub count : length below ≡ slot
  pub unfit : All IsUnfit below
  pub found : w.found ≡ v.found ++ (found_of 0 below ++ words_of slot words)

-- one word was found, which is not free; or free, and then another one
abbrev pub IsOccupied : List ℕ → Type 0
IsOccupied [] = ⊥
IsOccupied (word ∷ []) = word ≢ free
IsOccupied (word ∷ next ∷ []) = (word ≡ free) × (next ≢ free)
IsOccupied (word ∷ next ∷ more ∷ others) = ⊥

-- one word was found, which is not ready; or ready, and then another one
abbrev pub IsUnready : List ℕ → Type 0
IsUnready [] = ⊥
IsUnready (word ∷ []) = word ≢ ready
IsUnready (word ∷ next ∷ []) = (word ≡ ready) × (next ≢ ready)
IsUnready (word ∷ next ∷ more ∷ others) = ⊥

-- ---- what a seat has

-- its passes are as they were, and what it gave back
pub record HasSame {S A : Type 0} (v w : View S A) : Type 0 where
  pub passes : w.passes ≡ v.passes
  pub handed : w.handed ≡ v.handed

module _ {S A : Type 0} where
  -- the passes for other slots are as they were
  abbrev pub Others : View S A → ℕ → View S A → Type 0
  Others v slot w = (other : ℕ) → other ≢ slot → pass_of other w ≡ pass_of other v

-- the seat has a pass for the slot, whose session is not out with it
pub record HasIn {S A : Type 0} (v : View S A) (slot : ℕ) : Type 0 where
  pub pass : PassData S A
  pub inside : slot < slots
  pub there : pass_of slot v ≡ Some pass
  pub home : pass.out ≡ None

-- the seat has a pass for the slot, whose session is out with it, and this holds of both
pub record HasOut {S A : Type 0} (v : View S A) (slot : ℕ) (Holds : PassData S A → S → Type 0) : Type 0 where
  pub pass : PassData S A
  pub session : S
  pub inside : slot < slots
  pub there : pass_of slot v ≡ Some pass
  pub out : pass.out ≡ Some session
  pub holds : Holds pass session

-- whatever the session is
abbrev pub IsOut : {S A : Type 0} → View S A → ℕ → Type 0
IsOut v slot = HasOut v slot (λ _ _. ⊤)

-- ---- clients' calls

-- the client claimed the slot for this session
pub record Claimed {S A : Type 0} (new : S → A) (v : View S A) (slot : ℕ) (session : S) (w : View S A) : Type 0 where
  -- it had no pass for the slot
  pub fresh : pass_of slot v ≡ None
  pub pass : pass_of slot w ≡ Some (new_pass (new session) session)
  pub others : Others v slot w
  pub handed : w.handed ≡ v.handed

-- the client took its session out of the slot, whose word was this
pub record TookOut {S A : Type 0} (At : A → S → Type 0) (over : S → Bool)
    (v : View S A) (slot : ℕ) (pass : PassData S A) (word : ℕ) (session : S) (w : View S A) : Type 0 where
  pub fits : At pass.account session
  pub is : IsWordOf (over session) word
  pub now : pass_of slot w ≡ Some (pass_out pass session)
  pub others : Others v slot w
  pub found : Finds v slot word w
  pub handed : w.handed ≡ v.handed

-- a worker had the session
pub record Missed {S A : Type 0} (v : View S A) (slot : ℕ) (w : View S A) : Type 0 where
  pub same : pass_of slot w ≡ pass_of slot v
  pub others : Others v slot w
  pub found : Finds v slot with_worker w
  pub handed : w.handed ≡ v.handed

-- The client gave this session back with this word, and its account is what `back` says; what it took and what it gave
-- back comes last in its list.
pub record GaveBack {S A : Type 0} (back : A → S → A)
    (v : View S A) (slot : ℕ) (session : S) (word : ℕ) (w : View S A) : Type 0 where
  pub now : (pass : PassData S A) → pass_of slot v ≡ Some pass
      → pass_of slot w ≡ Some (pass_in (back pass.account session) word)
  pub handed : (pass : PassData S A) (before : S) → pass_of slot v ≡ Some pass → pass.out ≡ Some before
      → w.handed ≡ v.handed ++ handing slot before session word ∷ []
  pub others : Others v slot w
  pub found : w.found ≡ v.found

-- the client has no pass for the slot any more
pub record Freed {S A : Type 0} (v : View S A) (slot : ℕ) (w : View S A) : Type 0 where
  pub gone : pass_of slot w ≡ None
  pub others : Others v slot w
  pub found : w.found ≡ v.found
  pub handed : w.handed ≡ v.handed

-- ---- workers' calls

-- the session of the slot is out with the worker, has not ended, and is noted
pub record HasNoted {S A : Type 0} (over : S → Bool) (m : Seat S A) (slot : ℕ) : Type 0 where
  pub inside : slot < slots
  pub session : S
  pub running : over session ≡ false
  pub note : note_of slot m.0 ≡ Some session
  pub holds : m.1 ≡ (slot, Some session) ∷ []
