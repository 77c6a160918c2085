-- What each kind of step says: of the step, the seat m before, the word that it found, and the seat n after.
use Rattle.std.specs.Prelude.{◌≡◌, ◌≢◌, ◌<◌, ◌≤◌, ℕ, Bool, false, ◌∷◌, length, Option, Some, None}
use mathlib.Core.Option.{some}
use Rattle.atomic_table.specs.Table.{Me, Step, rest}
use Rattle.session_pool_slots.specs.Words.{IsWordOf, free, ready, with_client, with_worker}
use Rattle.session_pool_slots.specs.Views.{Handed, PassData, View, note_of, pass_of, with_found, with_handed, with_note, with_pass}

-- what a seat knows, and the slots whose content is out with it
abbrev pub Seat : Type 0 → Type 0 → Type 0
Seat S A = Me (Option S) (View S A)

-- what a kind of step says to its caller
abbrev pub Telling : Type 0 → Type 0 → Type 1
Telling S A = Step (Option S) → Seat S A → ℕ → Seat S A → Type 0

-- what a seat gave back of this slot: it had taken `before`, which became `after`, and left the word
abbrev pub handing : {S : Type 0} → ℕ → S → S → ℕ → Handed S
handing slot before after word = record { slot = slot; before = before; after = after; word = word }

-- ---- passes

module _ {S A : Type 0} where
  -- the pass for a session that was just claimed
  abbrev pub new_pass : A → S → PassData S A
  new_pass account session = record { account = account; out = Some session; stood = free; left = free }

  -- the session was taken out
  abbrev pub pass_out : PassData S A → S → PassData S A
  pass_out pass session = record pass { out = Some session; stood = free }

  -- the session was given back with this word
  abbrev pub pass_in : A → ℕ → PassData S A
  pass_in account word = record { account = account; out = None; stood = free; left = word }

  -- this word was found, and stays
  abbrev pub pass_stood : PassData S A → ℕ → PassData S A
  pass_stood pass word = record pass { stood = word }

-- ---- any seat

module _ {S A : Type 0} where
  -- A seat looks: it reads the word of a slot.
  abbrev pub looked : Telling S A
  looked st m word n = n ≡ (with_found m.0 st.word word, m.1)

-- ---- clients

-- The client has a new pass for the session that it announced, and what the free slot kept is out with it.
pub record Claims {S A : Type 0} (new : S → A) (slot : ℕ) (session : S)
    (m : Seat S A) (word : ℕ) (n : Seat S A) : Type 0 where
  pub inside : slot < length m.0.passes
  pub fresh : pass_of slot m.0 ≡ None
  pub kept : Option S
  pub after : n ≡ (
    with_pass (with_found m.0 slot word) slot (Some (new_pass (new session) session)),
    (slot, kept) ∷ m.1,
  )

-- the client's session is out with it, and is what its account says
pub record TakesOwn {S A : Type 0} (At : A → S → Type 0) (over : S → Bool) (slot : ℕ) (pass : PassData S A)
    (m : Seat S A) (word : ℕ) (n : Seat S A) : Type 0 where
  pub session : S
  pub fits : At pass.account session
  pub is : IsWordOf (over session) word
  pub after : n ≡ (
    with_pass (with_found m.0 slot word) slot (Some (pass_out pass session)),
    (slot, Some session) ∷ m.1,
  )

-- the word was another: that of a session with a worker, or one that stays
pub record MissesOwn {S A : Type 0} (slot expected : ℕ) (pass : PassData S A)
    (m : Seat S A) (word : ℕ) (n : Seat S A) : Type 0 where
  pub stood : pass.stood ≢ expected
  pub taken : free < word
  pub absent : word ≢ with_client
  pub most : word ≤ with_worker
  pub busy : word ≡ with_worker → n ≡ (with_found m.0 slot word, m.1)
  pub stays : word ≢ with_worker → n ≡ (with_pass (with_found m.0 slot word) slot (Some (pass_stood pass word)), m.1)

module _ {S A : Type 0} where
  -- A client claims: it takes a slot that is free, for the session that it announces, whose account `new` says.
  abbrev pub claimed : (S → A) → Telling S A
  claimed new st m word n =
      (word ≡ free → (session : S) → st.said ≡ some (Some session) → Claims new st.word session m word n)
      × (word ≢ free → n ≡ (with_found m.0 st.word word, m.1))

  -- A client takes: it takes its own session out, where the word is the one that it expects.
  abbrev pub taken : (A → S → Type 0) → (S → Bool) → Telling S A
  taken At over st m word n = (pass : PassData S A) → pass_of st.word m.0 ≡ Some pass
      → (word ≡ st.first → TakesOwn At over st.word pass m word n)
      × (word ≢ st.first → MissesOwn st.word st.first pass m word n)

  -- A client gives back: `Made` says what it made of the session, `back` its account from then on; the step has the
  -- word. What it took and what it gave back comes last in its list.
  abbrev pub given : (A → S → A) → (S → S → Type 0) → Telling S A
  given back Made st m word n = (pass : PassData S A) (before after : S)
      → pass_of st.word m.0 ≡ Some pass → pass.out ≡ Some before → m.1 ≡ (st.word, Some after) ∷ rest m.1
      → Made before after
      × (n ≡ (
        with_handed (with_pass m.0 st.word (Some (pass_in (back pass.account after) st.first)))
            (handing st.word before after st.first),
        rest m.1,
      ))

  -- A client frees: the slot of a session that is out with it keeps what the client puts there.
  abbrev pub freed : Telling S A
  freed st m word n = n ≡ (with_pass m.0 st.word None, rest m.1)

-- ---- workers

-- a worker has a session that has not ended, and notes as what it took it
pub record TakesReady {S A : Type 0} (over : S → Bool) (slot : ℕ)
    (m : Seat S A) (word : ℕ) (n : Seat S A) : Type 0 where
  pub inside : slot < length m.0.notes
  pub session : S
  pub running : over session ≡ false
  pub after : n ≡ (with_note (with_found m.0 slot word) slot (Some session), (slot, Some session) ∷ m.1)

module _ {S A : Type 0} where
  -- A worker takes: it takes the session of a slot that is ready.
  abbrev pub stolen : (S → Bool) → Telling S A
  stolen over st m word n = (word ≡ ready → TakesReady over st.word m word n)
      × (word ≢ ready → n ≡ (with_found m.0 st.word word, m.1))

  -- A worker gives back: `Made` says what it made of the session of its note, and the step the word.
  abbrev pub returned : (S → S → Type 0) → Telling S A
  returned Made st m word n = (before after : S)
      → note_of st.word m.0 ≡ Some before → m.1 ≡ (st.word, Some after) ∷ rest m.1
      → Made before after
      × (n ≡ (with_handed (with_note m.0 st.word None) (handing st.word before after st.first), rest m.1))
