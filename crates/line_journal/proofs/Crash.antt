-- Files with one more line after a closed gate or an open one.
use Rattle.std.proofs.Common.{◌≡◌, ◌⊎◌, inl, inr, ℕ, ◌+◌, List, [], ◌∷◌, ◌++◌, length, Ok, refl, sym, ◌∙◌, ap, arith, append_assoc, length-append}
use Rattle.std.specs.List.{flat_map, AllByRecursion}
use Rattle.std.proofs.lemmas.List.{append-nil}
use Rattle.line_journal.specs.Lines.{Line, IsLine, IsNewLine, block, closed_gate, at_rest, lines_in, line_and_gate, staged, HasRest}
use Rattle.line_journal.specs.Journal.{IsBeforeOrAfter}
use Rattle.line_journal.specs.declared.layout.TheConstants.{OPEN, CLOSED, NEWLINE}
use Rattle.line_journal.proofs.Blocks.{lines_with_rest, lines_half_open}

-- a list of lines with one more
pub are-more : (lines : List Line) (line : Line) → AllByRecursion IsLine lines → IsLine line → AllByRecursion IsLine (lines ++ line ∷ [])
are-more [] line are is = (is, tt)
are-more (l ∷ lines) line are is = (are.0, are-more lines line are.1 is)

pub are-before : (lines : List Line) (line : Line) → AllByRecursion IsLine (lines ++ line ∷ []) → AllByRecursion IsLine lines × IsLine line
are-before [] line are = (tt, are.0)
are-before (l ∷ lines) line are = let rest = are-before lines line are.1 in ((are.0, rest.0), rest.1)

-- its last line is one, and the others are one
pub more-same : (lines before : List Line) (line last : Line) → lines ++ line ∷ [] ≡ before ++ last ∷ [] → (lines ≡ before) × (line ≡ last)
more-same [] [] line last same = (refl, cc)
more-same [] (b ∷ []) line last same = absurd (let never : ⊥ = cc in never)
more-same [] (b ∷ (b' ∷ before)) line last same = absurd (let never : ⊥ = cc in never)
more-same (l ∷ []) [] line last same = absurd (let never : ⊥ = cc in never)
more-same (l ∷ (l' ∷ lines)) [] line last same = absurd (let never : ⊥ = cc in never)
more-same (l ∷ lines) (b ∷ before) line last same =
    let first : l ≡ b = cc in
    let rest : lines ++ line ∷ [] ≡ before ++ last ∷ [] = cc in
    let found = more-same lines before line last rest in
    (let e : lines ≡ before = found.0 in cc, found.1)

pub blocks-more : (lines : List Line) (line : Line) (rest : List ℕ) → flat_map block (lines ++ line ∷ []) ++ rest ≡ flat_map block lines ++ block line ++ rest
blocks-more [] line rest = ap (λ (l : List ℕ). l ++ rest) (append-nil (block line))
blocks-more (l ∷ lines) line rest =
    append_assoc (block l) (flat_map block (lines ++ line ∷ [])) rest ∙ ap (λ (t : List ℕ). block l ++ t) (blocks-more lines line rest ∙ append_assoc (flat_map block lines) (block line) rest)
    ∙ sym (append_assoc (block l) (flat_map block lines) (block line ++ rest)) ∙ sym (append_assoc (block l ++ flat_map block lines) (block line) rest)

-- with an open gate, it is the file at rest that has the line too
pub staged_open : (lines : List Line) (line : Line) → staged lines OPEN OPEN line ≡ at_rest (lines ++ line ∷ [])
staged_open lines line =
    sym (blocks-more lines line closed_gate ∙ append_assoc (flat_map block lines) (block line) closed_gate
    ∙ ap (λ (t : List ℕ). flat_map block lines ++ OPEN ∷ OPEN ∷ t) (append_assoc line (NEWLINE ∷ []) closed_gate))

pub length-block_more : (lines : List Line) (line : Line) → length (flat_map block (lines ++ line ∷ [])) ≡ length (flat_map block lines) + (length line + 3)
length-block_more lines line =
    omega (
      arith,
      ap length (sym (append-nil (flat_map block (lines ++ line ∷ []))) ∙ blocks-more lines line [] ∙ append-nil (flat_map block lines ++ block line)),
      length-append (flat_map block lines) (block line),
      length-append line (NEWLINE ∷ []),
    )

pub length-at_rest : (lines : List Line) → length (at_rest lines) ≡ length (flat_map block lines) + 2
length-at_rest lines = length-append (flat_map block lines) closed_gate

module _ (lines : List Line) (line : Line) (are : AllByRecursion IsLine lines) where
  pub length-line_and_gate : length (line_and_gate line) ≡ length line + 3
  length-line_and_gate = length-append line (NEWLINE ∷ closed_gate)

  pub staged_closed : IsNewLine line → lines_in (staged lines CLOSED CLOSED line) ≡ Ok lines
  staged_closed is = lines_with_rest lines (line_and_gate line) are (omega (arith, length-line_and_gate, is.1))

  pub staged_rest : IsNewLine line → HasRest lines (staged lines CLOSED CLOSED line)
  staged_rest is = record {
    rest = line_and_gate line;
    split = sym (append_assoc (flat_map block lines) closed_gate (line_and_gate line));
    few = omega (arith, length-line_and_gate, is.1);
  }

  pub staged_counts : IsLine line → lines_in (staged lines OPEN OPEN line) ≡ Ok (lines ++ line ∷ [])
  staged_counts is = ap lines_in (staged_open lines line) ∙ lines_with_rest (lines ++ line ∷ []) [] (are-more lines line are is) (omega arith)

  -- a byte of a gate
  abbrev pub IsGateByte : ℕ → Type 0
  IsGateByte b = (b ≡ CLOSED) ⊎ (b ≡ OPEN)

  -- with an open byte in its gate, the last line counts
  pub one_open : IsLine line → (a b : ℕ) → ((a ≡ OPEN) × IsGateByte b) ⊎ ((b ≡ OPEN) × IsGateByte a) → lines_in (staged lines a b line) ≡ Ok (lines ++ line ∷ [])
  one_open is a b (inl (first, inl second)) = lines_half_open lines a b line are is (inl (first, second))
  one_open is a b (inl (first, inr second)) = rw (first, second) (staged_counts is)
  one_open is a b (inr (second, inl first)) = lines_half_open lines a b line are is (inr (first, second))
  one_open is a b (inr (second, inr first)) = rw (first, second) (staged_counts is)

  -- whatever the gate, the file reads as the lines without the last one or with it
  pub any_gate : IsNewLine line → (a b : ℕ) → IsGateByte a → IsGateByte b → IsBeforeOrAfter lines line (staged lines a b line)
  any_gate is a b (inl first) (inl second) = inl (rw (first, second) (staged_closed is))
  any_gate is a b (inr first) second = inr (one_open is.0 a b (inl (first, second)))
  any_gate is a b (inl first) (inr second) = inr (one_open is.0 a b (inr (second, inl first)))
