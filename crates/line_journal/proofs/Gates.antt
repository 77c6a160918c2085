-- What comes at a gate: lines up to their newlines, and damage.
use Rattle.std.proofs.Common.{◌≡◌, ℕ, ◌+◌, ◌-◌, ◌<◌, ◌≤◌, ◌==◌, Bool, true, false, List, [], ◌∷◌, ◌++◌, length, take, drop, Some, None, Result, Err, suc, nat_lt, slice_index, refl, sym, ◌∙◌, ap, subst, arith, length-drop}
use Rattle.std.specs.List.{position, position_or_len, slice_range}
use Rattle.std.proofs.lemmas.List.{drop_more, drop-drop}
use Rattle.std.proofs.lemmas.Bool.Decides.{nat_tests}
use Rattle.line_journal.specs.Lines.{Line, IsLine, closed_gate, is_closed, is_closed_gate, is_last_line, read_from, damage_at}
use Rattle.line_journal.specs.Reading.{IsLineTo}
use Rattle.line_journal.specs.declared.error.Damage.{Damage}
use Rattle.line_journal.specs.declared.layout.TheConstants.{OPEN, CLOSED, NEWLINE}

abbrev pub is_newline : ℕ → Bool
is_newline b = b == NEWLINE

-- no newline
no_newline : (l : List ℕ) → length l ≤ position_or_len is_newline l → IsLine l
no_newline [] few = tt
no_newline (b ∷ l) few = by_test (b == NEWLINE) refl (no_newline l)
  where
    by_test : (t : Bool) → (b == NEWLINE) ≡ t → (length l ≤ position_or_len is_newline l → IsLine l) → IsLine (b ∷ l)
    by_test true e further = absurd (let none : position_or_len is_newline (b ∷ l) ≡ 0 = rw e refl in omega (arith, none))
    by_test false e further =
        let one : position_or_len is_newline (b ∷ l) ≡ 1 + position_or_len is_newline l = rw e refl in
        (grind (arith, nat_tests), further (omega (arith, one)))

-- the bytes up to the first newline
record IsFirst (l : List ℕ) (n : ℕ) : Type 0 where
  bytes : l ≡ take n l ++ NEWLINE ∷ drop (n + 1) l
  is_line : IsLine (take n l)
  within : n < length l

is_first : (l : List ℕ) → position_or_len is_newline l < length l → IsFirst l (position_or_len is_newline l)
is_first [] below = absurd (omega arith)
is_first (b ∷ l) below = by_test (b == NEWLINE) refl (is_first l)
  where
    by_test : (t : Bool) → (b == NEWLINE) ≡ t → (position_or_len is_newline l < length l → IsFirst l (position_or_len is_newline l))
        → IsFirst (b ∷ l) (position_or_len is_newline (b ∷ l))
    by_test true e further =
        let none : position_or_len is_newline (b ∷ l) ≡ 0 = rw e refl in
        let is : b ≡ NEWLINE = grind (arith, nat_tests) in
        rw none (record { bytes = ap (λ (x : ℕ). x ∷ l) is; is_line = tt; within = omega arith })
    by_test false e further =
        let one : position_or_len is_newline (b ∷ l) ≡ suc (position_or_len is_newline l) = rw e (omega arith) in
        let first = further (omega (arith, one)) in
        let next : suc (position_or_len is_newline l) + 1 ≡ suc (position_or_len is_newline l + 1) = omega arith in
        rw one (record { bytes = ap (λ (x : List ℕ). b ∷ x) first.bytes ∙ ap (λ (k : ℕ). b ∷ (take (position_or_len is_newline l) l ++ NEWLINE ∷ drop k (b ∷ l))) (sym next); is_line = (grind (arith, nat_tests), first.is_line); within = omega (arith, first.within) })

-- what a search for the first newline finds
found : (l : List ℕ) (n : ℕ) → position is_newline l ≡ Some n → IsFirst l n
found l n is = by_test (nat_lt (position_or_len is_newline l) (length l)) refl
  where
    by_test : (t : Bool) → nat_lt (position_or_len is_newline l) (length l) ≡ t → IsFirst l n
    by_test true e =
        let there : position is_newline l ≡ Some (position_or_len is_newline l) = rw e refl in
        let same : position_or_len is_newline l ≡ n = cc (there, is) in
        subst (IsFirst l) same (is_first l (grind (arith, nat_tests)))
    by_test false e = absurd (let there : position is_newline l ≡ None = rw e refl in let never : ⊥ = cc (there, is) in never)

not_found : (l : List ℕ) → position is_newline l ≡ None → IsLine l
not_found l is = by_test (nat_lt (position_or_len is_newline l) (length l)) refl
  where
    by_test : (t : Bool) → nat_lt (position_or_len is_newline l) (length l) ≡ t → IsLine l
    by_test true e = absurd (let there : position is_newline l ≡ Some (position_or_len is_newline l) = rw e refl in let never : ⊥ = cc (there, is) in never)
    by_test false e = no_newline l (grind (arith, nat_tests))

module _ (file : List ℕ) (from : ℕ) (within : from ≤ length file) where
  pub line_to : (n : ℕ) → position is_newline (drop from file) ≡ Some n → IsLineTo file from (from + n) (drop (from + n + 1) file)
  line_to n is =
      let first = found (drop from file) n is in
      let long : from + n - from ≡ n = omega arith in
      let rest : drop (n + 1) (drop from file) ≡ drop (from + n + 1) file = drop-drop (n + 1) from file ∙ (let e : from + (n + 1) ≡ from + n + 1 = omega arith in ap (λ (k : ℕ). drop k file) e) in
      record {
        bytes = first.bytes ∙ ap (λ (k : ℕ). take k (drop from file) ++ NEWLINE ∷ drop (n + 1) (drop from file)) (sym long)
            ∙ ap (λ (l : List ℕ). slice_range file from (from + n) ++ NEWLINE ∷ l) rest;
        is_line = subst (λ (k : ℕ). IsLine (take k (drop from file))) (sym long) first.is_line;
        forward = omega arith;
        within = omega (arith, first.within, length-drop from file);
      }

  pub no_line_to : position is_newline (drop from file) ≡ None → IsLine (drop from file)
  no_line_to is = not_found (drop from file) is

-- bytes with no newline are no last line
pub no_last_line : (l : List ℕ) → IsLine l → is_last_line l ≡ false
no_last_line [] is = refl
no_last_line (b ∷ l) is =
    let not_end : (b == NEWLINE) ≡ false = grind (arith, nat_tests, is.0) in
    rw not_end (no_last_line l is.1)

-- a line is the last one by what comes after its newline
pub last_line_by : (line rest : List ℕ) → IsLine line → is_last_line (line ++ NEWLINE ∷ rest) ≡ is_closed_gate rest
last_line_by [] rest is = refl
last_line_by (b ∷ line) rest is =
    let not_end : (b == NEWLINE) ≡ false = grind (arith, nat_tests, is.0) in
    rw not_end (last_line_by line rest is.1)

other_gate : (l : List ℕ) → (l ≡ closed_gate → ⊥) → is_closed_gate l ≡ false
other_gate [] other = refl
other_gate (a ∷ []) other = refl
other_gate (a ∷ b ∷ []) other = by_test (a == CLOSED) refl (b == CLOSED) refl
  where
    by_test : (s : Bool) → (a == CLOSED) ≡ s → (t : Bool) → (b == CLOSED) ≡ t → is_closed a b ≡ false
    by_test false e t f = rw e refl
    by_test true e false f = rw (e, f) refl
    by_test true e true f =
        absurd (other (let first : a ≡ CLOSED = grind (arith, nat_tests) in let second : b ≡ CLOSED = grind (arith, nat_tests) in rw (first, second) refl))
other_gate (a ∷ b ∷ c ∷ l) other = refl

pub not_the_last : (file : List ℕ) (from end : ℕ) → IsLineTo file from end (drop (end + 1) file) → (drop (end + 1) file ≡ closed_gate → ⊥)
    → is_last_line (drop from file) ≡ false
not_the_last file from end line other =
    ap is_last_line line.bytes ∙ last_line_by (slice_range file from end) (drop (end + 1) file) line.is_line ∙ other_gate (drop (end + 1) file) other

-- a gate that is cut off
pub cut_gate : (at : ℕ) (l : List ℕ) → length l < 2 → read_from at None l ≡ Err (damage_at at)
cut_gate at [] few = refl
cut_gate at (a ∷ []) few = refl
cut_gate at (a ∷ b ∷ l) few = absurd (omega arith)

-- a line that does not end
read_on : (at : ℕ) (so_far line : List ℕ) → IsLine line → read_from at (Some so_far) line ≡ Err (damage_at (at + length line))
read_on at so_far [] is = let e : at ≡ at + length {A = ℕ} [] = omega arith in ap (λ (n : ℕ). failed n) e
  where
    failed : ℕ → Result (List Line) Damage
    failed n = Err (damage_at n)
read_on at so_far (b ∷ line) is =
    let not_end : (b == NEWLINE) ≡ false = grind (arith, nat_tests, is.0) in
    let e : at + 1 + length line ≡ at + length (b ∷ line) = omega arith in
    rw not_end (read_on (at + 1) (so_far ++ b ∷ []) line is.1 ∙ ap (λ (n : ℕ). failed n) e)
  where
    failed : ℕ → Result (List Line) Damage
    failed n = Err (damage_at n)

two_more : (file : List ℕ) (at : ℕ) → at + 2 ≤ length file → drop at file ≡ slice_index file at ∷ slice_index file (at + 1) ∷ drop (at + 2) file
two_more file at within =
    drop_more file at 0 (omega arith) ∙ ap (λ (l : List ℕ). slice_index file at ∷ l) (drop_more file (at + 1) 0 (omega arith)
    ∙ ap (λ (l : List ℕ). slice_index file (at + 1) ∷ l) (let e : at + 1 + 1 ≡ at + 2 = omega arith in ap (λ (n : ℕ). drop n file) e))

pub no_end : (file : List ℕ) (at : ℕ) → at + 2 ≤ length file → slice_index file at ≡ OPEN → slice_index file (at + 1) ≡ OPEN → IsLine (drop (at + 2) file)
    → read_from at None (drop at file) ≡ Err (damage_at (length file))
no_end file at within first second is =
    let bytes : drop at file ≡ OPEN ∷ OPEN ∷ drop (at + 2) file = two_more file at within ∙ rw (first, second) refl in
    let e : at + 2 + length (drop (at + 2) file) ≡ length file = omega (arith, length-drop (at + 2) file) in
    ap (read_from at None) bytes ∙ read_on (at + 2) [] (drop (at + 2) file) is ∙ ap failed e
  where
    failed : ℕ → Result (List Line) Damage
    failed n = Err (damage_at n)
