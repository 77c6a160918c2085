-- The rule of the table: the state of each slot, by its word. All of this is this project's own.
use Rattle.std.specs.Prelude.{◌≡◌, ◌≢◌, ◌⊎◌, ◌<◌, ℕ, Bool, List, length, slice_index, Option, Some, None}
use mathlib.Core.Option as plain
use mathlib.Core.Option.{none, some}
use lib.ListN.{get_elem?}
use Rattle.atomic_table.specs.Table.{State}
use Rattle.session_pool_slots.specs.Words.{IsWordOf, free, ready, slots, with_client, with_worker}
use Rattle.session_pool_slots.specs.Views.{PassData, View, note_of, pass_of}

-- where a slot's content is: there is no such slot, it is away with a seat, or it is at home
abbrev pub Place : Type 0 → Type 0
Place S = plain.Option (plain.Option (Option S))

abbrev pub away : {S : Type 0} → Place S
away = some none

abbrev pub at_home : {S : Type 0} → Option S → Place S
at_home content = some (some content)

-- what f makes of the value that is there, or else d
abbrev pub look : {A B : Type 0} → (A → B) → B → plain.Option A → B
look f d none = d
look f d (some a) = f a

-- no seat has one
abbrev pub Nobody : {A : Type 0} → (ℕ → Option A) → Type 0
Nobody has = (seat : ℕ) → has seat ≡ None

-- this seat has it, and no other has one
abbrev pub Sole : {A : Type 0} → (ℕ → Option A) → ℕ → A → Type 0
Sole has seat a = (has seat ≡ Some a) × ((other : ℕ) → other ≢ seat → has other ≡ None)

module _ {S A : Type 0} where
  -- the pass that each seat has for the slot
  abbrev pub passes_at : List (View S A) → ℕ → ℕ → Option (PassData S A)
  passes_at views slot seat = look (pass_of slot) None (get_elem? views seat)

  -- the note that each seat has for the slot
  abbrev pub notes_at : List (View S A) → ℕ → ℕ → Option S
  notes_at views slot seat = look (note_of slot) None (get_elem? views seat)

-- ---- the four states of a slot, by its word, the place of its content, and each seat's pass and note

module _ {S A : Type 0} (word : ℕ) (place : Place S) (passes : ℕ → Option (PassData S A)) (notes : ℕ → Option S) where
  -- A free slot keeps what is in it: a session that is used again, or nothing.
  pub record IsFree : Type 0 where
    pub is : word ≡ free
    pub kept : Option S
    pub here : place ≡ at_home kept
    pub unowned : Nobody passes
    pub unnoted : Nobody notes

  -- The session is at home. `At` says that an account is that of a session, and `over` that a session has ended. If the
  -- pass has a word that stays, it is the slot's, and not ready: so no worker takes the session from there.
  pub record IsHome (At : A → S → Type 0) (over : S → Bool) : Type 0 where
    pub owner : ℕ
    pub pass : PassData S A
    pub session : S
    pub is : IsWordOf (over session) word
    pub here : place ≡ at_home (Some session)
    pub owned : Sole passes owner pass
    pub unnoted : Nobody notes
    pub fits : At pass.account session
    pub home : pass.out ≡ None
    pub stood : (pass.stood ≡ free) ⊎ ((pass.stood ≡ word) × (word ≢ ready))

  -- its client has the session
  pub record IsWithClient : Type 0 where
    pub owner : ℕ
    pub pass : PassData S A
    pub session : S
    pub is : word ≡ with_client
    pub here : place ≡ away
    pub owned : Sole passes owner pass
    pub unnoted : Nobody notes
    pub out : pass.out ≡ Some session
    pub stood : pass.stood ≡ free

  -- a worker has the session, and has noted as what it took it
  pub record IsWithWorker (At : A → S → Type 0) : Type 0 where
    pub owner : ℕ
    pub pass : PassData S A
    pub worker : ℕ
    pub note : S
    pub is : word ≡ with_worker
    pub here : place ≡ away
    pub owned : Sole passes owner pass
    pub noted : Sole notes worker note
    pub fits : At pass.account note
    pub home : pass.out ≡ None
    pub stood : pass.stood ≡ free

-- the state of a slot
pub data Stands {S A : Type 0} (At : A → S → Type 0) (over : S → Bool)
    (word : ℕ) (place : Place S) (passes : ℕ → Option (PassData S A)) (notes : ℕ → Option S) : Type 0 where
  stands_free : IsFree word place passes notes → Stands At over word place passes notes
  stands_home : IsHome word place passes notes At over → Stands At over word place passes notes
  stands_with_client : IsWithClient word place passes notes → Stands At over word place passes notes
  stands_with_worker : IsWithWorker word place passes notes At → Stands At over word place passes notes

-- the rule: there are `slots` slots, each in one of these states, and each seat has room for a pass and a note of each
pub record IsInOrder {S A : Type 0} (At : A → S → Type 0) (over : S → Bool)
    (s : State (Option S) (View S A)) : Type 0 where
  pub words : length s.words ≡ slots
  pub places : length s.homes ≡ slots
  pub each : (slot : ℕ) → slot < slots
      → Stands At over (slice_index s.words slot) (get_elem? s.homes slot)
      (passes_at s.views slot) (notes_at s.views slot)
  pub rows : (seat : ℕ) (v : View S A) → get_elem? s.views seat ≡ some v
      → (length v.passes ≡ slots) × (length v.notes ≡ slots)
