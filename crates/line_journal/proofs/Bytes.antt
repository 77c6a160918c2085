-- How a file is read line by line.
use Rattle.std.proofs.Common.{◌≡◌, ℕ, ◌+◌, ◌-◌, List, [], ◌∷◌, ◌++◌, length, take, drop, Option, Some, None, Result, Ok, Err, Vec, refl, sym, ◌∙◌, ap, arith, append_assoc, length-append, length-take, length-drop, take-append-drop}
use Rattle.std.specs.List.{flat_map, slice_range, AllByRecursion}
use Rattle.std.specs.Global.{Global}
use Rattle.std.proofs.lemmas.List.{append-nil, length-map, take_at}
use Rattle.line_journal.specs.Lines.{Line, IsLine, IsLeft, block, closed_gate, staged, with_line, read_from, lines_in, lines_of, damage_at}
use Rattle.line_journal.specs.Reading.{IsNext}
use Rattle.line_journal.specs.declared.reading.Next.TheVariants as nexts
use Rattle.line_journal.specs.declared.error.Damage.{Damage}
use Rattle.line_journal.specs.declared.error.ReadError.{ReadError}
use Rattle.line_journal.specs.declared.error.ReadError.TheVariants.{Damaged}
use Rattle.line_journal.specs.declared.layout.TheConstants.{OPEN, CLOSED, NEWLINE}
use Rattle.line_journal.proofs.Blocks.{with_lines, with_lines-ok, read_block, read_closed, lines_half_open, Reads}
use Rattle.line_journal.proofs.Crash.{blocks-more, are-more, length-block_more}

with_lines-more : (lines : List Line) (line : Line) (r : Result (List Line) Damage) → with_lines (lines ++ line ∷ []) r ≡ with_lines lines (with_line line r)
with_lines-more [] line r = refl
with_lines-more (l ∷ lines) line r = ap (with_line l) (with_lines-more lines line r)

-- damage at this byte, after these lines
abbrev pub damage_after : List Line → ℕ → Damage
damage_after lines at = record { at = at; line = length lines + 1 }

pub with_lines-err : (lines : List Line) (at : ℕ) → with_lines lines (Err (damage_at at)) ≡ Err (damage_after lines at)
with_lines-err [] at = refl
with_lines-err (l ∷ lines) at =
    let counted : length lines + 1 + 1 ≡ length (l ∷ lines) + 1 = omega arith in
    let failed : ℕ → Result (List Line) Damage = λ n. Err (record { at = at; line = n }) in
    ap (with_line l) (with_lines-err lines at) ∙ ap failed counted

-- the damage that is returned, where its line was counted by the lines in memory
pub damage-found : (vs : List (Vec ℕ Global)) (at n : ℕ) (read : Result (List Line) Damage) (error : ReadError) (damage : Damage) → read ≡ Err (damage_after (lines_of vs) at)
    → error ≡ Damaged (record { at = at; line = n + 1 }) → n ≡ length vs → error ≡ Damaged damage → read ≡ Err damage
damage-found vs at n read error damage is gives counted found =
    let place : ℕ → Damage = λ k. record { at = at; line = k + 1 } in
    let long : length (lines_of vs) ≡ n = length-map vs (λ (v : Vec ℕ Global). v.items) ∙ sym counted in
    let same : place n ≡ damage = cc (gives, found) in
    let failed : Damage → Result (List Line) Damage = λ d. Err d in
    is ∙ ap failed (ap place long ∙ same)

-- the file has these lines, its closed gate is at this byte, and this is left of one more line or of a crash
pub record Ends (file : List ℕ) (gate : ℕ) (half_open : Option ℕ) (lines : List Line) : Type 0 where
  pub reads_as : lines_in file ≡ Ok lines
  pub at : gate ≡ length (flat_map block lines)
  pub are : AllByRecursion IsLine lines
  pub left : IsLeft lines half_open file

pub lines_of-more : (vs : List (Vec ℕ Global)) (v : Vec ℕ Global) → lines_of (vs ++ v ∷ []) ≡ lines_of vs ++ v.items ∷ []
lines_of-more [] v = refl
lines_of-more (x ∷ vs) v = ap (λ (l : List Line). x.items ∷ l) (lines_of-more vs v)

-- the bytes up to a byte, where these come after it
front_of : (file front rest : List ℕ) (n : ℕ) → file ≡ front ++ rest → n ≡ length front → front ≡ take n file
front_of file front rest n split long = sym (ap (take n) split ∙ ap (λ (k : ℕ). take k (front ++ rest)) long ∙ take_at front rest (length front) refl)

module _ (file : List ℕ) (at : ℕ) (lines : List Line) (reads : Reads file at lines) where
  whole : file ≡ flat_map block lines ++ drop at file
  whole = sym (take-append-drop at file) ∙ ap (λ (l : List ℕ). l ++ drop at file) (sym reads.front)

  here : at ≡ length (flat_map block lines)
  here = omega (arith, ap length reads.front, length-take at file, reads.within)

  read_on : (bytes : List ℕ) → drop at file ≡ bytes → lines_in file ≡ with_lines lines (read_from at None bytes)
  read_on bytes is = sym reads.read ∙ ap (λ (l : List ℕ). with_lines lines (read_from at None l)) is

  -- a line and its gate
  pub reads_line : (end : ℕ) → IsNext file at (nexts.Line end) → Reads file (end + 1) (lines ++ slice_range file (at + 2) end ∷ [])
  reads_line end next =
      let line = slice_range file (at + 2) end in
      let rest = drop (end + 1) file in
      let long : length line ≡ end - (at + 2) = omega (arith, length-take (end - (at + 2)) (drop (at + 2) file), length-drop (at + 2) file, next.1.forward, next.1.within) in
      let bytes : drop at file ≡ block line ++ rest = next.0 ∙ ap (λ (l : List ℕ). OPEN ∷ OPEN ∷ l) (next.1.bytes ∙ sym (append_assoc line (NEWLINE ∷ []) rest)) in
      let split : file ≡ flat_map block (lines ++ line ∷ []) ++ rest =
      whole ∙ ap (λ (l : List ℕ). flat_map block lines ++ l) bytes ∙ sym (append_assoc (flat_map block lines) (block line) rest) ∙ sym (blocks-more lines line rest) in
      record {
        read = with_lines-more lines line (read_from (end + 1) None rest)
            ∙ ap (with_lines lines) (sym (read_block at (end + 1) line rest next.1.is_line (omega (arith, long, next.1.forward, length-append line (NEWLINE ∷ [])))))
            ∙ sym (read_on (block line ++ rest) bytes);
        front = front_of file (flat_map block (lines ++ line ∷ [])) rest (end + 1) split (omega (arith, long, here, next.1.forward, length-block_more lines line));
        are = are-more lines line reads.are next.1.is_line;
        within = omega (arith, next.1.within);
      }

  -- a line whose gate is half open
  pub reads_last : (end : ℕ) → IsNext file at (nexts.LastLine end) → Ends file (end + 1) (Some at) (lines ++ slice_range file (at + 2) end ∷ [])
  reads_last end next =
      let line = slice_range file (at + 2) end in
      let long : length line ≡ end - (at + 2) = omega (arith, length-take (end - (at + 2)) (drop (at + 2) file), length-drop (at + 2) file, next.line.forward, next.line.within) in
      let split : file ≡ staged lines next.first next.second line =
      whole ∙ ap (λ (l : List ℕ). flat_map block lines ++ l) (next.gate ∙ ap (λ (l : List ℕ). next.first ∷ next.second ∷ l) next.line.bytes) in
      record {
        reads_as = ap lines_in split ∙ lines_half_open lines next.first next.second line reads.are next.line.is_line next.half;
        at = omega (arith, long, here, next.line.forward, length-block_more lines line);
        are = are-more lines line reads.are next.line.is_line;
        left = record { before = lines; last = line; first = next.first; second = next.second; are = refl; half = next.half; here = here; split = split };
      }

  -- the closed gate
  pub reads_end : IsNext file at nexts.End → Ends file at None lines
  reads_end next =
      let rest = drop (at + 2) file in
      record {
        reads_as = read_on (CLOSED ∷ CLOSED ∷ rest) next.0 ∙ ap (with_lines lines) (read_closed at rest next.1) ∙ with_lines-ok lines [] ∙ ap all (append-nil lines);
        at = here;
        are = reads.are;
        left = record {
          rest = rest;
          split = whole ∙ ap (λ (l : List ℕ). flat_map block lines ++ l) next.0 ∙ sym (append_assoc (flat_map block lines) closed_gate rest);
          few = next.1;
        };
      }
    where
      all : List Line → Result (List Line) Damage
      all ls = Ok ls

  pub reads_damaged : (place : ℕ) → IsNext file at (nexts.Damaged place) → lines_in file ≡ Err (damage_after lines place)
  reads_damaged place next = sym reads.read ∙ ap (with_lines lines) next ∙ with_lines-err lines place
