-- Contents that move: how bytes go into a store, and what becomes of a content that is no UTF-8.
use Rattle.std.proofs.Common.{◌≡◌, ℕ, ◌+◌, ◌<◌, Bool, true, cond, List, [], ◌++◌, take, drop, Option, refl, sym, ap, ◌∙◌, arith, pos}
use Rattle.std.specs.Str.{is_utf8}
use Rattle.std.proofs.Math.Seq.{take-add}
use Rattle.std.proofs.lemmas.Str.{IsUtf8-nil, is_utf8-from_IsUtf8}
use Rattle.std.proofs.lemmas.List.{drop-drop}
use Rattle.spec_avro.specs.declared.meter.Meter.{Meter}
use Rattle.spec_decoding.specs.Decoding.{Decoding, Complete, Failed, ◌>>=◌}
use Rattle.avro_bytes.specs.Laws.Lengths.{length_sound}
use Rattle.avro_bytes.specs.Laws.Numbers.{number_some}
use Rattle.spec_decoding.specs.LengthDecoding.{length_at}
use Rattle.spec_avro.specs.Number.{long_limit}
use Rattle.avro_bytes.specs.Text.{utf8_only}
use Rattle.spec_machine.specs.State.{State, Store, miss}
use Rattle.spec_machine.specs.Table.{Move, anything, only_text, or_miss}

-- what becomes of one that is no UTF-8
pub data Check : Type 0 where
  Anything : Check
  OnlyText : Check
  OrMiss : ℕ → Check

abbrev pub unless_of : Check → ℕ → State → State → Option State
unless_of Anything from old new = anything from old new
unless_of OnlyText from old new = only_text from old new
unless_of (OrMiss m) from old new = or_miss m from old new

-- the rows' move, where bytes are put so into a store
abbrev pub move_of : (List ℕ → Store → Store) → Check → Move
move_of put check = record { put = λ x s. record s { store = put x s.store }; unless_text = unless_of check }

-- the content that decoding gives, checked
abbrev pub checked : Check → List ℕ → ℕ → Meter → Decoding (List ℕ)
checked Anything bytes to m = Complete bytes to m
checked OnlyText bytes to m = utf8_only bytes to m
checked (OrMiss k) bytes to m = Complete bytes to m

-- the store after a content that is whole
abbrev pub closed : Check → Bool → Store → Store
closed Anything ok s = s
closed OnlyText ok s = s
closed (OrMiss k) ok s = cond ok s (miss k s)

-- how bytes go into stores of a kind
pub record Puts (put : List ℕ → Store → Store) (Fits : Store → Type 0) : Type 0 where
  pub none : (s : Store) → Fits s → put [] s ≡ s
  pub twice : (x y : List ℕ) (s : Store) → Fits s → put x (put y s) ≡ put (y ++ x) s
  pub keeps : (x : List ℕ) (s : Store) → Fits s → Fits (put x s)

pub unchecked : (check : Check) → ((x : List ℕ) (to : ℕ) (m : Meter) → checked check x to m ≡ Complete x to m) → (g : Decoding (List ℕ)) → (g >>= checked check) ≡ g
unchecked check h (Complete x to m) = h x to m
unchecked check h (Failed d) = refl

pub closed_text : (check : Check) (s : Store) → closed check true s ≡ s
closed_text Anything s = refl
closed_text OnlyText s = refl
closed_text (OrMiss k) s = refl

-- ---- numbers and lists

-- n bytes from an offset on
abbrev pub stretch : List ℕ → ℕ → ℕ → List ℕ
stretch p at n = take n (drop at p)

pub stretches : (p : List ℕ) (at m n : ℕ) → stretch p at m ++ stretch p (at + m) n ≡ stretch p at (m + n)
stretches p at m n = ap (λ (l : List ℕ). take m (drop at p) ++ take n l) (sym (drop-drop m at p)) ∙ sym (take-add m n (drop at p))

pub no_text : is_utf8 [] ≡ true
no_text = is_utf8-from_IsUtf8 [] IsUtf8-nil

pub then_then : {A B C : Type 0} (x : Decoding A) (f : A → ℕ → Meter → Decoding B) (g : B → ℕ → Meter → Decoding C) → (x >>= f >>= g) ≡ (x >>= λ a to m. f a to m >>= g)
then_then (Complete a to m) f g = refl
then_then (Failed d) f g = refl

pub length_ahead : (p : List ℕ) (at : ℕ) (m : Meter) (n to : ℕ) (after : Meter) → length_at p at m ≡ Complete n to after → (at < to) × (m ≡ after)
length_ahead p at m n to after e =
    let s = length_sound p at m n to after e in
    (omega (arith, number_some long_limit (pos n) s.0.bytes s.0.spelled.1, s.0.end), s.1)
