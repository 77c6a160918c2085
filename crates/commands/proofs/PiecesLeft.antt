-- The pieces of a line, one after another.
use Rattle.std.proofs.Common.{◌≡◌, ◌<◌, ℕ, zero, suc, ◌+◌, true, false, List, [], ◌∷◌, ◌++◌, length, take, Bor, Option, Some, None, MatchOption, nat_le, nat_lt, refl, sym, ap, ◌∙◌, append-nil, append_assoc, add-one, arith, length-append, Result, Ok, Err, OnOk, codes}
use Rattle.std.specs.Prelude.{if◌then◌else◌, slice_get}
use Rattle.std.specs.Result.{is_ok}
use Rattle.std.specs.List.{concat}
use Rattle.std.proofs.lemmas.Bool.{leb-false, leb-true, lt-leb, lt-ltb}
use Rattle.spec_machine.specs.Lengths.{total_length}
use Rattle.spec_avro.specs.declared.limits.TheConstants.{MOST_PAYLOAD}
use Rattle.spec_machine.specs.ListingParts.{each_in}
use Rattle.spec_machine.specs.ListingWords.{parts}
use Rattle.assembler.proofs.Each.{with_front, word_fails, word_read, words_read}
use Rattle.spec_machine.specs.Program.{Program}
use Rattle.spec_machine.specs.State.{State}
use Rattle.spec_lines.specs.Payload.{payload_of}
use Rattle.spec_lines.specs.RunLine.{line_of_run}
use Rattle.spec_lines.specs.Running.{IsRunAnswer, StopsIn}

-- ---- what is left of a line

abbrev pub parts_left : Option (Bor (List ℕ)) → List (List ℕ)
parts_left (Some line) = parts 124 line.now
parts_left None = []

abbrev pub size_left : Option (Bor (List ℕ)) → ℕ
size_left (Some line) = length line.now + 1
size_left None = 0

-- the pieces so far go before those that are left
abbrev pub GoBefore : List (List ℕ) → Option (Bor (List ℕ)) → List ℕ → Type 0
GoBefore pieces rest line = with_front pieces (each_in payload_of (parts_left rest)) ≡ each_in payload_of (parts 124 line)

-- the first piece of what is left, and what is left after it
abbrev pub IsSplit : List ℕ → List ℕ → Option (Bor (List ℕ)) → Type 0
IsSplit left text later = MatchOption later (parts 124 left ≡ text ∷ [])
    (λ l. (parts 124 left ≡ text ∷ parts 124 l.now) × (length l.now < length left))

split_parts : (left text : List ℕ) (later : Option (Bor (List ℕ))) → IsSplit left text later → parts 124 left ≡ text ∷ parts_left later
split_parts left text None e = e
split_parts left text (Some l) e = e.0

module _ (line : List ℕ) (pieces : List (List ℕ)) (rest later : Option (Bor (List ℕ))) (left : Bor (List ℕ)) (text : List ℕ)
    (so_far : GoBefore pieces rest line) (some : rest ≡ Some left) (split : IsSplit left.now text later) where
  abbrev whole : Option (List (List ℕ))
  whole = each_in payload_of (parts 124 line)

  begins : parts_left rest ≡ text ∷ parts_left later
  begins = ap parts_left some ∙ split_parts left.now text later split

  pub piece_read : (piece : List ℕ) (grown : List (List ℕ)) → payload_of text ≡ Some piece → grown ≡ pieces ++ piece ∷ [] → GoBefore grown later line
  piece_read piece grown read e =
      rw e (word_read payload_of pieces (parts_left rest) whole so_far text (parts_left later) piece begins read)

  pub piece_fails : payload_of text ≡ None → whole ≡ None
  piece_fails none = word_fails payload_of pieces (parts_left rest) whole so_far text (parts_left later) begins none

pub pieces_read : (line : List ℕ) (pieces : List (List ℕ)) (rest : Option (Bor (List ℕ))) → GoBefore pieces rest line → rest ≡ None
    → each_in payload_of (parts 124 line) ≡ Some pieces
pieces_read line pieces rest so_far none =
    words_read payload_of pieces (parts_left rest) (each_in payload_of (parts 124 line)) so_far (ap parts_left none)

-- ---- pieces, joined

concat_through : (pieces : List (List ℕ)) (n : ℕ) (piece : List ℕ) → slice_get pieces n ≡ Some piece
    → concat (take (suc n) pieces) ≡ concat (take n pieces) ++ piece
concat_through [] n piece is = absurd (cc)
concat_through (p ∷ pieces) zero piece is = let same : p ≡ piece = cc in rw same (append-nil piece)
concat_through (p ∷ pieces) (suc n) piece is =
    ap (λ (bs : List ℕ). p ++ bs) (concat_through pieces n piece is) ∙ sym (append_assoc p (concat (take n pieces)) piece)

-- one piece more
pub concat_next : (pieces : List (List ℕ)) (n : ℕ) (piece : List ℕ) → slice_get pieces n ≡ Some piece
    → concat (take (n + 1) pieces) ≡ concat (take n pieces) ++ piece
concat_next pieces n piece is = rw add-one (concat_through pieces n piece is)

length_joined : (pieces : List (List ℕ)) → total_length pieces ≡ length (concat pieces)
length_joined [] = refl
length_joined (piece ∷ pieces) = omega (arith, length-append piece (concat pieces), length_joined pieces)

is_large : (pieces : List (List ℕ)) → nat_le (total_length pieces) MOST_PAYLOAD ≡ false → nat_lt MOST_PAYLOAD (length (concat pieces)) ≡ true
is_large pieces e =
    let more = leb-false (total_length pieces) MOST_PAYLOAD e in
    lt-ltb MOST_PAYLOAD (length (concat pieces)) (omega (arith, more, length_joined pieces))

is_small : (pieces : List (List ℕ)) → nat_le (total_length pieces) MOST_PAYLOAD ≡ true → nat_lt MOST_PAYLOAD (length (concat pieces)) ≡ false
is_small pieces e =
    let most = leb-true (total_length pieces) MOST_PAYLOAD e in
    lt-leb (MOST_PAYLOAD + 1) (length (concat pieces)) (omega (arith, most, length_joined pieces))

-- ---- the answer that was written

module _ {X E : Type 0} (P : Program) (steps : ℕ) (pieces : List (List ℕ)) (old new : List ℕ) where
  abbrev IsWritten : Result X E → Type 0
  IsWritten r = OnOk r ((answer : List ℕ) × IsRunAnswer P steps answer (concat pieces) × (new ≡ old ++ answer))

  pub large_written : (r : Result X E) → nat_le (total_length pieces) MOST_PAYLOAD ≡ false
      → new ≡ (if is_ok r then old ++ codes "too large" else old) → IsWritten r
  large_written (Ok x) large put = (codes "too large", rw (is_large pieces large) refl, put)
  large_written (Err e) large put = tt

  pub run_written : (r : Result X E) (s : State) → nat_le (total_length pieces) MOST_PAYLOAD ≡ true → StopsIn P (concat pieces) steps s
      → OnOk r (new ≡ old ++ line_of_run s) → IsWritten r
  run_written (Ok x) s small stops put = (line_of_run s, rw (is_small pieces small) (s, stops, refl), put)
  run_written (Err e) s small stops put = tt
