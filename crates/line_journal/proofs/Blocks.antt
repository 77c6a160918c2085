-- How blocks are read.
use Rattle.std.proofs.Common.{◌≡◌, ◌≢◌, inl, inr, ℕ, ◌+◌, ◌≤◌, ◌==◌, nat_le, true, false, List, [], ◌∷◌, ◌++◌, length, take, drop, Some, None, Result, Ok, refl, sym, ◌∙◌, ap, arith, append_assoc, length-append}
use Rattle.std.specs.List.{flat_map, AllByRecursion}
use Rattle.std.proofs.lemmas.List.{append-nil}
use Rattle.std.proofs.lemmas.Bool.Decides.{nat_tests}
use Rattle.line_journal.specs.Lines.{Line, IsLine, block, closed_gate, IsHalf, is_last_line, line_and_gate, opens, staged, with_line, read_from, lines_in}
use Rattle.line_journal.specs.declared.error.Damage.{Damage}
use Rattle.line_journal.specs.declared.layout.TheConstants.{CLOSED, NEWLINE, LONGEST}

-- a line up to its newline
pub read_line : (at n : ℕ) (so_far line rest : List ℕ) → AllByRecursion (λ b. b ≢ NEWLINE) line → n ≡ at + length line + 1
    → read_from at (Some so_far) (line ++ NEWLINE ∷ rest) ≡ with_line (so_far ++ line) (read_from n None rest)
read_line at n so_far [] rest clean is =
    let e : at + 1 ≡ n = omega arith in
    ap (λ (k : ℕ). with_line so_far (read_from k None rest)) e ∙ ap (λ (l : Line). with_line l (read_from n None rest)) (sym (append-nil so_far))
read_line at n so_far (b ∷ line) rest clean is =
    let not_end : (b == NEWLINE) ≡ false = grind (arith, nat_tests, clean.0) in
    rw not_end (read_line (at + 1) n (so_far ++ b ∷ []) line rest clean.1 (omega arith)
    ∙ ap (λ (l : Line). with_line l (read_from n None rest)) (append_assoc so_far (b ∷ []) line))

-- lines before those that are read
abbrev pub with_lines : List Line → Result (List Line) Damage → Result (List Line) Damage
with_lines [] r = r
with_lines (line ∷ lines) r = with_line line (with_lines lines r)

pub with_lines-ok : (lines more : List Line) → with_lines lines (Ok more) ≡ Ok (lines ++ more)
with_lines-ok [] more = refl
with_lines-ok (line ∷ lines) more = ap (with_line line) (with_lines-ok lines more)

-- one block
pub read_block : (at n : ℕ) (line rest : List ℕ) → AllByRecursion (λ b. b ≢ NEWLINE) line → n ≡ at + length (block line)
    → read_from at None (block line ++ rest) ≡ with_line line (read_from n None rest)
read_block at n line rest clean is =
    rw (append_assoc line (NEWLINE ∷ []) rest) (read_line (at + 2) n [] line rest clean (omega (arith, length-append line (NEWLINE ∷ []))))

-- the blocks of some lines
pub read_blocks : (at n : ℕ) (lines : List Line) (rest : List ℕ) → AllByRecursion IsLine lines → n ≡ at + length (flat_map block lines)
    → read_from at None (flat_map block lines ++ rest) ≡ with_lines lines (read_from n None rest)
read_blocks at n [] rest are is = let e : at ≡ n = omega arith in ap (λ (k : ℕ). read_from k None rest) e
read_blocks at n (line ∷ lines) rest are is =
    ap (read_from at None) (append_assoc (block line) (flat_map block lines) rest)
    ∙ read_block at (at + length (block line)) line (flat_map block lines ++ rest) are.0 refl
    ∙ ap (with_line line) (read_blocks (at + length (block line)) n lines rest are.1 (omega (arith, length-append (block line) (flat_map block lines))))

-- after a closed gate there is no line
pub read_closed : (at : ℕ) (rest : List ℕ) → length rest ≤ LONGEST + 3 → read_from at None (CLOSED ∷ CLOSED ∷ rest) ≡ Ok []
read_closed at rest few =
    let fits : nat_le (length rest) (LONGEST + 3) ≡ true = grind (arith, nat_tests) in
    rw fits

-- a file at rest, and after it what one line leaves
pub lines_with_rest : (lines : List Line) (rest : List ℕ) → AllByRecursion IsLine lines → length rest ≤ LONGEST + 3
    → lines_in (flat_map block lines ++ CLOSED ∷ CLOSED ∷ rest) ≡ Ok lines
lines_with_rest lines rest are few =
    let all : List Line → Result (List Line) Damage = λ ls. Ok ls in
    read_blocks 0 (0 + length (flat_map block lines)) lines (CLOSED ∷ CLOSED ∷ rest) are refl
    ∙ ap (with_lines lines) (read_closed (0 + length (flat_map block lines)) rest few)
    ∙ with_lines-ok lines []
    ∙ ap all (append-nil lines)

-- the last line of a file, up to the closed gate
pub last_line : (line : Line) → IsLine line → is_last_line (line_and_gate line) ≡ true
last_line [] is = refl
last_line (b ∷ line) is =
    let not_end : (b == NEWLINE) ≡ false = grind (arith, nat_tests, is.0) in
    rw not_end (last_line line is.1)

-- a half open gate before the last line counts
half_opens : (a b : ℕ) (rest : List ℕ) → IsHalf a b → is_last_line rest ≡ true → opens a b rest ≡ true
half_opens a b rest (inl half) last = rw (half.0, half.1, last) refl
half_opens a b rest (inr half) last = rw (half.0, half.1, last) refl

pub read_half : (at a b : ℕ) (line : Line) → IsLine line → IsHalf a b → read_from at None (a ∷ b ∷ line_and_gate line) ≡ Ok (line ∷ [])
read_half at a b line is half =
    let opened = half_opens a b (line_and_gate line) half (last_line line is) in
    rw opened (read_line (at + 2) (at + 2 + length line + 1) [] line closed_gate is refl ∙ ap (with_line line) (read_closed (at + 2 + length line + 1) [] (omega arith)))

-- a file whose last gate is half open
pub lines_half_open : (lines : List Line) (a b : ℕ) (line : Line) → AllByRecursion IsLine lines → IsLine line → IsHalf a b
    → lines_in (staged lines a b line) ≡ Ok (lines ++ line ∷ [])
lines_half_open lines a b line are is half =
    read_blocks 0 (0 + length (flat_map block lines)) lines (a ∷ b ∷ line_and_gate line) are refl
    ∙ ap (with_lines lines) (read_half (0 + length (flat_map block lines)) a b line is half)
    ∙ with_lines-ok lines (line ∷ [])

-- the file was read as these lines up to this byte, where a gate comes next
pub record Reads (file : List ℕ) (at : ℕ) (lines : List Line) : Type 0 where
  pub read : with_lines lines (read_from at None (drop at file)) ≡ lines_in file
  pub front : flat_map block lines ≡ take at file
  pub are : AllByRecursion IsLine lines
  pub within : at ≤ length file
