-- Where the last line of a journal begins.
use Rattle.std.proofs.Common.{◌≡◌, ℕ, ◌≤◌, List, [], ◌∷◌, ◌++◌, length, Option, Some, None, refl, sym, ◌∙◌, ap, subst}
use Rattle.std.specs.List.{flat_map}
use Rattle.line_journal.specs.Lines.{Line, block, HasRest, IsLeft}
use Rattle.line_journal.specs.Journal.{IsLast, IsAtRest, IsShut, IsTorn, IsStaged}
use Rattle.line_journal.specs.declared.journal.Journal.{Journal}
use Rattle.line_journal.specs.declared.layout.TheConstants.{LONGEST}
use Rattle.line_journal.proofs.Crash.{more-same, staged_rest}

pub none-last : (last : Option ℕ) (lines : List Line) → last ≡ None → IsLast last lines
none-last last lines none at is = absurd (let never : ⊥ = cc in never)

-- the line that was added is the last one
pub added-last : (last : Option ℕ) (gate : ℕ) (lines : List Line) (line : Line) → last ≡ Some gate → gate ≡ length (flat_map block lines) → length line ≤ LONGEST
    → IsLast last (lines ++ line ∷ [])
added-last last gate lines line is at few there there_is before other same =
    let here : there ≡ gate = cc in
    let both = more-same lines before line other same in (
      here ∙ at ∙ ap (λ (ls : List Line). length (flat_map block ls)) both.0,
      subst (λ (l : Line). length l ≤ LONGEST) both.1 few,
    )

-- no line may be taken back
pub no_last : {D : Type 0} (seen : D → List ℕ) (may_leave : D → List ℕ → Type 0) (journal : Journal D) (lines : List Line)
    → IsAtRest seen may_leave journal lines → IsAtRest seen may_leave (record journal { last = None }) lines
no_last seen may_leave journal lines rests = record {
  file = rests.file;
  gate = rests.gate;
  last = none-last None lines refl;
  are_lines = rests.are_lines;
  durable = rests.durable;
}

-- the line after a closed gate may be cut off
pub staged-shut : {D : Type 0} (seen : D → List ℕ) (may_leave : D → List ℕ → Type 0) (journal : Journal D) (lines : List Line) (line : Line)
    → journal.last ≡ None → IsStaged seen may_leave journal lines line → IsShut may_leave journal lines
staged-shut seen may_leave journal lines line none staged = record {
  gate = staged.gate;
  last = none-last journal.last lines none;
  are_lines = staged.are_lines;
  left = λ file may. subst (HasRest lines) (sym (staged.durable file may ∙ staged.file)) (staged_rest lines line staged.are_lines staged.is_line);
}

-- what is left of a line, by another word for where
pub torn_alike : {D : Type 0} (may_leave : D → List ℕ → Type 0) (half_open half_open' : Option ℕ) (journal : Journal D) (lines : List Line)
    → half_open ≡ half_open' → IsTorn may_leave half_open journal lines → IsTorn may_leave half_open' journal lines
torn_alike may_leave half_open half_open' journal lines same torn = record {
  gate = torn.gate;
  last = torn.last;
  are_lines = torn.are_lines;
  left = λ file may. subst (λ (o : Option ℕ). IsLeft lines o file) same (torn.left file may);
}
