-- No line mismatches just where no bad pair is reached.
use Rattle.std.proofs.Common.{◌≡◌, List, [], ◌∷◌, suc, ℕ, slice_get, Some, refl, inl, inr}
use Rattle.std.specs.List.{AllByRecursion}
use Rattle.spec_avro.specs.Node.{Node}
use Rattle.spec_avro.specs.Safety.{Pair}
use Rattle.schema_explain.specs.Lines.{EachBadPairHasALine, HasMismatchAt, IsFine, MismatchesAreAtBadPairs, SafeWhereNoLineMismatches, SomeLine}
use Rattle.schema_explain.specs.declared.line.Line.{Line}

all_fine : (lines : List Line) → ((i : ℕ) (line : Line) → slice_get lines i ≡ Some line → IsFine line) → AllByRecursion IsFine lines
all_fine [] each = tt
all_fine (line ∷ lines) each = (each 0 line refl, all_fine lines (λ i l at. each (suc i) l at))

module _ (W R : List Node) where
  none_there : (p : Pair) (lines : List Line) → AllByRecursion IsFine lines → SomeLine (HasMismatchAt W R p) lines → ⊥
  none_there p [] fine some = some
  none_there p (line ∷ lines) fine (inl h) = fine.0 h.kind h.fate
  none_there p (line ∷ lines) fine (inr some) = none_there p lines fine.1 some

  pub safe_lines : EachBadPairHasALine W R → MismatchesAreAtBadPairs W R → SafeWhereNoLineMismatches W R
  safe_lines all only lines is = (
    (λ fine p reach bad. none_there p lines fine (all lines p is reach bad)),
    (λ safe. all_fine lines (λ i line at kind e. (let h = only lines i line kind is at e in safe h.pair h.reached h.bad))),
  )
