-- What becomes of a file at rest of which one byte of a gate has changed.
use Rattle.std.proofs.Common.{◌≡◌, ◌⊎◌, inl, inr, ℕ, ◌==◌, Bool, true, false, List, [], ◌∷◌, ◌++◌, length, None, Ok, Err, ⊎_elim, refl, sym, ◌∙◌, ap, subst, arith}
use Rattle.std.specs.List.{flat_map, AllByRecursion}
use Rattle.std.proofs.lemmas.Bool.Decides.{nat_tests}
use Rattle.line_journal.specs.Lines.{Line, IsLine, block, is_closed_gate, is_last_line, opens, closes, at_rest, line_and_gate, read_from, lines_in, damage_at}
use Rattle.line_journal.specs.Changes.{ChangedOpenGateIsFound, ChangedClosedGateIsFound, IsOneChanged, IsDamagedAfter}
use Rattle.line_journal.specs.declared.layout.TheConstants.{OPEN, CLOSED, NEWLINE}
use Rattle.line_journal.proofs.Blocks.{with_lines, read_blocks, lines_half_open}
use Rattle.line_journal.proofs.Bytes.{with_lines-err}
use Rattle.line_journal.proofs.Gates.{last_line_by}

no_gate : (at a b : ℕ) (rest : List ℕ) → opens a b rest ≡ false → closes a b rest ≡ false → read_from at None (a ∷ b ∷ rest) ≡ Err (damage_at at)
no_gate at a b rest not_open not_closed = rw (not_open, not_closed) refl

damaged : (lines : List Line) (a b : ℕ) (rest : List ℕ) → AllByRecursion IsLine lines → opens a b rest ≡ false → closes a b rest ≡ false
    → IsDamagedAfter lines (flat_map block lines ++ a ∷ b ∷ rest)
damaged lines a b rest are not_open not_closed =
    let at : ℕ = length (flat_map block lines) in
    read_blocks 0 at lines (a ∷ b ∷ rest) are (omega arith) ∙ ap (with_lines lines) (no_gate at a b rest not_open not_closed) ∙ with_lines-err lines at

-- what comes after a gate that is open is no closed gate
open_first : (b : ℕ) (rest : List ℕ) → is_closed_gate (OPEN ∷ b ∷ rest) ≡ false
open_first b [] = refl
open_first b (x ∷ rest) = refl

-- a line before another one is not the last
one_more : (line next : Line) (after : List Line) → IsLine line → is_last_line (line ++ NEWLINE ∷ at_rest (next ∷ after)) ≡ false
one_more line next after is = last_line_by line (at_rest (next ∷ after)) is ∙ open_first OPEN _

-- an open gate whose first byte has changed, but which is not half open, or whose line is not the last one
first_changed : (a : ℕ) (rest : List ℕ) (r l : Bool) → (a == OPEN) ≡ false → (a == CLOSED) ≡ r → is_last_line rest ≡ l → (r ≡ false) ⊎ (l ≡ false)
    → (opens a OPEN rest ≡ false) × (closes a OPEN rest ≡ false)
first_changed a rest false l e f g why = rw (e, f) (refl, refl)
first_changed a rest true false e f g why = rw (e, f, g) (refl, refl)
first_changed a rest true true e f g (inl why) = absurd (cc why)
first_changed a rest true true e f g (inr why) = absurd (cc why)

-- and one whose second byte has
second_changed : (b : ℕ) (rest : List ℕ) (r l : Bool) → (b == OPEN) ≡ false → (b == CLOSED) ≡ r → is_last_line rest ≡ l → (r ≡ false) ⊎ (l ≡ false)
    → (opens OPEN b rest ≡ false) × (closes OPEN b rest ≡ false)
second_changed b rest false l e f g why = rw (e, f) (refl, refl)
second_changed b rest true false e f g why = rw (e, f, g) (refl, refl)
second_changed b rest true true e f g (inl why) = absurd (cc why)
second_changed b rest true true e f g (inr why) = absurd (cc why)

-- the last line counts, or the gate is damaged
pub changed_last : (before : List Line) (line : Line) (a b : ℕ) → AllByRecursion IsLine before → IsLine line → IsOneChanged OPEN a b
    → IsDamagedAfter before (flat_map block before ++ a ∷ b ∷ line_and_gate line)
    ⊎ (lines_in (flat_map block before ++ a ∷ b ∷ line_and_gate line) ≡ Ok (before ++ line ∷ []))
changed_last before line a b are is (inl (other, same)) = by_test (a == CLOSED) refl
  where
    by_test : (t : Bool) → (a == CLOSED) ≡ t → IsDamagedAfter before (flat_map block before ++ a ∷ b ∷ line_and_gate line)
        ⊎ (lines_in (flat_map block before ++ a ∷ b ∷ line_and_gate line) ≡ Ok (before ++ line ∷ []))
    by_test true e = inr (lines_half_open before a b line are is (inr (grind (arith, nat_tests), same)))
    by_test false e =
        let no : (a == OPEN) ≡ false = grind (arith, nat_tests, other) in
        let not = first_changed a (line_and_gate line) false (is_last_line (line_and_gate line)) no e refl (inl refl) in
        inl (rw same (damaged before a OPEN (line_and_gate line) are not.0 not.1))
changed_last before line a b are is (inr (same, other)) = by_test (b == CLOSED) refl
  where
    by_test : (t : Bool) → (b == CLOSED) ≡ t → IsDamagedAfter before (flat_map block before ++ a ∷ b ∷ line_and_gate line)
        ⊎ (lines_in (flat_map block before ++ a ∷ b ∷ line_and_gate line) ≡ Ok (before ++ line ∷ []))
    by_test true e = inr (lines_half_open before a b line are is (inl (same, grind (arith, nat_tests))))
    by_test false e =
        let no : (b == OPEN) ≡ false = grind (arith, nat_tests, other) in
        let not = second_changed b (line_and_gate line) false (is_last_line (line_and_gate line)) no e refl (inl refl) in
        inl (rw same (damaged before OPEN b (line_and_gate line) are not.0 not.1))

-- a gate before another line is damaged
pub changed_earlier : (before : List Line) (line next : Line) (after : List Line) (a b : ℕ) → AllByRecursion IsLine before → IsLine line → IsOneChanged OPEN a b
    → IsDamagedAfter before (flat_map block before ++ a ∷ b ∷ (line ++ NEWLINE ∷ at_rest (next ∷ after)))
changed_earlier before line next after a b are is (inl (other, same)) =
    let rest = line ++ NEWLINE ∷ at_rest (next ∷ after) in
    let no : (a == OPEN) ≡ false = grind (arith, nat_tests, other) in
    let not = first_changed a rest (a == CLOSED) false no refl (one_more line next after is) (inr refl) in
    rw same (damaged before a OPEN rest are not.0 not.1)
changed_earlier before line next after a b are is (inr (same, other)) =
    let rest = line ++ NEWLINE ∷ at_rest (next ∷ after) in
    let no : (b == OPEN) ≡ false = grind (arith, nat_tests, other) in
    let not = second_changed b rest (b == CLOSED) false no refl (one_more line next after is) (inr refl) in
    rw same (damaged before OPEN b rest are not.0 not.1)

pub changed_open_gate : ChangedOpenGateIsFound
changed_open_gate before [] line a b are is changed file split =
    ⊎_elim (λ bad. inl (subst (IsDamagedAfter before) (sym split) bad)) (λ read. inr (refl, ap lines_in split ∙ read)) (changed_last before line a b are is changed)
changed_open_gate before (next ∷ after) line a b are is changed file split =
    inl (subst (IsDamagedAfter before) (sym split) (changed_earlier before line next after a b are is changed))

pub changed_closed_gate : ChangedClosedGateIsFound
changed_closed_gate lines a b are (inl (other, same)) =
    let no : (a == CLOSED) ≡ false = grind (arith, nat_tests, other) in
    rw same (damaged lines a CLOSED [] are (not_open a) (rw no refl))
  where
    not_open : (a : ℕ) → opens a CLOSED [] ≡ false
    not_open a = by_test (a == OPEN) refl (a == CLOSED) refl
      where
        by_test : (s : Bool) → (a == OPEN) ≡ s → (t : Bool) → (a == CLOSED) ≡ t → opens a CLOSED [] ≡ false
        by_test true e t f = rw e refl
        by_test false e true f = rw (e, f) refl
        by_test false e false f = rw (e, f) refl
changed_closed_gate lines a b are (inr (same, other)) =
    let no : (b == CLOSED) ≡ false = grind (arith, nat_tests, other) in
    rw same (damaged lines CLOSED b [] are (not_open b) (rw no refl))
  where
    not_open : (b : ℕ) → opens CLOSED b [] ≡ false
    not_open b = by_test (b == OPEN) refl
      where
        by_test : (s : Bool) → (b == OPEN) ≡ s → opens CLOSED b [] ≡ false
        by_test true e = rw e refl
        by_test false e = rw e refl
