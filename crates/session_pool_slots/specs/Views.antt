-- What a seat knows, as plain data. S is what a session is, and A what a client's calls have made of one.
use Rattle.std.specs.Prelude.{ℕ, List, [], ◌∷◌, ◌++◌, replicate, slice_index_or, slice_set, Option, None}
use Rattle.session_pool_slots.specs.Words.{slots}

-- the word of a slot was found to be this
pub record FoundWord : Type 0 where
  pub slot : ℕ
  pub word : ℕ

-- a client's pass for its session
pub record PassData (S A : Type 0) : Type 0 where
  -- what its calls have made of the session
  pub account : A
  -- the session as it was when the client took it out, while it is out
  pub out : Option S
  -- a word that was found and stays, or `free`
  pub stood : ℕ
  -- the word with which the client gave the session back last, or `free`
  pub left : ℕ

-- what a seat gave back: the slot, the session as it was taken, what it became, and the word that was left
pub record Handed (S : Type 0) : Type 0 where
  pub slot : ℕ
  pub before : S
  pub after : S
  pub word : ℕ

-- what a seat knows
pub record View (S A : Type 0) : Type 0 where
  -- the words that were found, one after another
  pub found : List FoundWord
  -- for each slot the client's pass, where the seat has one
  pub passes : List (Option (PassData S A))
  -- for each slot the worker's note, where the seat has one: the session as it was taken
  pub notes : List (Option S)
  -- what the seat gave back, one after another
  pub handed : List (Handed S)

-- nothing for each of n slots
unfoldable pub vacant : {A : Type 0} → ℕ → List (Option A)
vacant n = replicate n None

-- that the word of this slot was found to be this
abbrev pub found_word : ℕ → ℕ → FoundWord
found_word slot word = record { slot = slot; word = word }

module _ {S A : Type 0} where
  -- what a new seat knows
  abbrev pub blank : View S A
  blank = record { found = []; passes = vacant slots; notes = vacant slots; handed = [] }

  -- the pass for a slot
  abbrev pub pass_of : ℕ → View S A → Option (PassData S A)
  pass_of slot v = slice_index_or v.passes slot None

  -- the note of a slot
  abbrev pub note_of : ℕ → View S A → Option S
  note_of slot v = slice_index_or v.notes slot None

  -- one more word was found
  abbrev pub with_found : View S A → ℕ → ℕ → View S A
  with_found v slot word = record v { found = v.found ++ found_word slot word ∷ [] }

  -- the slot has this pass, or none
  abbrev pub with_pass : View S A → ℕ → Option (PassData S A) → View S A
  with_pass v slot pass = record v { passes = slice_set v.passes slot pass }

  -- the slot has this note, or none
  abbrev pub with_note : View S A → ℕ → Option S → View S A
  with_note v slot note = record v { notes = slice_set v.notes slot note }

  -- one more session was given back
  abbrev pub with_handed : View S A → Handed S → View S A
  with_handed v handed = record v { handed = v.handed ++ handed ∷ [] }
