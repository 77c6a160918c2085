-- What holds of the lines of two schemas: no part is missing, and mismatches are at bad pairs.
use Rattle.std.specs.Prelude.{◌≡◌, ◌↔◌, ℕ, ◌⊎◌, true, List, [], ◌∷◌, Some, None, Ok, Err, slice_get}
use Rattle.std.specs.List.{AllByRecursion}
use Rattle.spec_avro.specs.Conforming.{Conforms}
use Rattle.spec_avro.specs.Datum.{Datum}
use Rattle.spec_avro.specs.Node.{Node, FieldNode}
use Rattle.spec_avro.specs.declared.mismatch.Mismatch.{Mismatch}
use Rattle.spec_avro.specs.declared.mismatch.MismatchKind.{MismatchKind}
use Rattle.spec_avro.specs.declared.mismatch.MismatchKind.TheVariants.{NoMatch, NoBranch, NoSymbol, NoDefault, BytesNotText}
use Rattle.spec_avro.specs.Partners.{routes}
use Rattle.spec_avro.specs.Resolution.{Resolved, field_lists, lacks, resolved, symbol_at, symbol_for}
use Rattle.spec_avro.specs.Safety.{IsBad, IsSafe, Pair, Reached}
use Rattle.schema_explain.specs.Arrivals.{arrival}
use Rattle.schema_explain.specs.Explanation.{IsExplanation}
use Rattle.schema_explain.specs.declared.line.Fate.TheVariants as fates
use Rattle.schema_explain.specs.declared.line.Line.{Line}
use Rattle.schema_explain.specs.declared.line.Part.TheVariants.{Field, Symbol}

-- one of the lines is so
abbrev pub SomeLine : (Line → Type 0) → List Line → Type 0
SomeLine P [] = ⊥
SomeLine P (line ∷ lines) = P line ⊎ SomeLine P lines

module _ (W R : List Node) where
  -- the line of a pair goes where its data arrive, and says what becomes of them there
  pub record IsLineOf (p : Pair) (line : Line) : Type 0 where
    pub writer : line.writer ≡ Some p.0
    pub reader : line.reader ≡ Some (arrival W R p.0 p.1).node
    pub fate : line.fate ≡ (arrival W R p.0 p.1).fate

  -- a line of a mismatch at a pair, by its kind
  pub data IsMismatchAt : MismatchKind → Pair → Line → Type 0 where
    no_match : {w r : ℕ} {line : Line} → line.writer ≡ Some w → line.reader ≡ Some r
        → IsMismatchAt NoMatch (w, r) line
    no_branch : {w r : ℕ} {line : Line} → line.writer ≡ Some w → line.reader ≡ Some r
        → IsMismatchAt NoBranch (w, r) line
    -- of a writer's symbol that the reader does not have
    no_symbol : {w r : ℕ} {line : Line} (i : ℕ) (symbol : List ℕ) → symbol_at (slice_get W w) i ≡ Some symbol
        → symbol_for (slice_get R r) symbol ≡ None → line.part ≡ Symbol i → line.writer ≡ Some w
        → line.reader ≡ Some r → IsMismatchAt NoSymbol (w, r) line
    -- of a reader's field that has neither a partner nor a default
    no_default : {w r : ℕ} {line : Line} (j : ℕ) (ws rs : List FieldNode) (g : FieldNode)
        → field_lists (slice_get W w) (slice_get R r) ≡ Some (ws, rs) → slice_get rs j ≡ Some g
        → lacks (routes ws rs) j g ≡ true → line.part ≡ Field None (Some j) → line.writer ≡ Some w
        → line.reader ≡ Some g.node → IsMismatchAt NoDefault (w, r) line

  -- a line with a mismatch at this pair
  pub record HasMismatchAt (p : Pair) (line : Line) : Type 0 where
    pub kind : MismatchKind
    pub fate : line.fate ≡ fates.Mismatch kind
    pub at : IsMismatchAt kind p line

  -- a line of a mismatch at a bad pair that is reached
  pub record IsAtBadPair (kind : MismatchKind) (line : Line) : Type 0 where
    pub pair : Pair
    pub reached : Reached W R pair
    pub bad : IsBad W R pair
    pub at : IsMismatchAt kind pair line

-- each pair that the roots lead to has a line
abbrev pub EachPairHasALine : List Node → List Node → Type 0
EachPairHasALine W R = (lines : List Line) (p : Pair) → IsExplanation W R lines → Reached W R p
    → SomeLine (IsLineOf W R p) lines

-- each bad pair that the roots lead to has a line with a mismatch
abbrev pub EachBadPairHasALine : List Node → List Node → Type 0
EachBadPairHasALine W R = (lines : List Line) (p : Pair) → IsExplanation W R lines → Reached W R p → IsBad W R p
    → SomeLine (HasMismatchAt W R p) lines

-- each line with a mismatch is at a bad pair that the roots lead to
abbrev pub MismatchesAreAtBadPairs : List Node → List Node → Type 0
MismatchesAreAtBadPairs W R = (lines : List Line) (i : ℕ) (line : Line) (kind : MismatchKind)
    → IsExplanation W R lines → slice_get lines i ≡ Some line → line.fate ≡ fates.Mismatch kind
    → IsAtBadPair W R kind line

-- a line with the kind and the nodes of a mismatch, or with its nodes and bytes that may be no text
pub record ShowsMismatch (m : Mismatch) (line : Line) : Type 0 where
  pub writer : line.writer ≡ Some m.writer_node
  pub reader : line.reader ≡ Some m.reader_node
  pub fate : (line.fate ≡ fates.Mismatch m.kind) ⊎ ((m.kind ≡ BytesNotText) × (line.fate ≡ fates.PromotedIfText))

-- a value of the reader, or a mismatch that has a line
abbrev pub HasLine : {A : Type 0} → List Line → Resolved A → Type 0
HasLine lines (Ok a) = Unit {0}
HasLine lines (Err m) = SomeLine (ShowsMismatch m) lines

-- whatever a datum of the writer is, a mismatch that it meets has a line
abbrev pub EachMismatchHasALine : List Node → List Node → Type 0
EachMismatchHasALine W R = (lines : List Line) (d : Datum) → IsExplanation W R lines → Conforms W 0 d
    → HasLine lines (resolved W R 0 0 d)

-- it has no mismatch
abbrev pub IsFine : Line → Type 0
IsFine line = (kind : MismatchKind) → line.fate ≡ fates.Mismatch kind → ⊥

-- no line has a mismatch just where no bad pair is reached
abbrev pub SafeWhereNoLineMismatches : List Node → List Node → Type 0
SafeWhereNoLineMismatches W R = (lines : List Line) → IsExplanation W R lines
    → AllByRecursion IsFine lines ↔ IsSafe W R

-- two schemas have one explanation
abbrev pub ThereIsOneExplanation : List Node → List Node → Type 0
ThereIsOneExplanation W R = (a b : List Line) → IsExplanation W R a → IsExplanation W R b → a ≡ b
