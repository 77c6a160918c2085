-- What a bad pair is about: all fields that lack, and all symbols that are missing, by their positions.
use Rattle.std.specs.Prelude.{◌≡◌, ℕ, suc, List, [], ◌∷◌, Option, Some, if◌then◌else◌, is_none, slice_get}
use Rattle.spec_avro.specs.Node.{Node, EnumNode, FieldNode}
use Rattle.spec_avro.specs.declared.mismatch.MismatchKind.TheVariants.{NoDefault, NoSymbol}
use Rattle.spec_avro.specs.Options.{given}
use Rattle.spec_avro.specs.Partners.{routes}
use Rattle.spec_avro.specs.declared.place.Route.{Route}
use Rattle.spec_avro.specs.Resolution.{field_lists, lacks, symbol_in}
use Rattle.spec_avro.specs.Safety.{Pair}
use Rattle.schema_check.specs.BadKinds.{IsBadBy}

-- the positions, from j on, of the reader's fields that have neither a partner nor a default
abbrev pub lacking_positions : List Route → ℕ → List FieldNode → List ℕ
lacking_positions routes j [] = []
lacking_positions routes j (g ∷ rs) =
    if lacks routes j g then j ∷ lacking_positions routes (suc j) rs else lacking_positions routes (suc j) rs

-- those of two nodes; none where either is no record
abbrev pub all_lacking : Option Node → Option Node → List ℕ
all_lacking w r = given (field_lists w r) [] (λ p. lacking_positions (routes p.0 p.1) 0 p.1)

-- the positions, from i on, of the writer's symbols that are not among the reader's, which has no default
abbrev pub missing_positions : List (List ℕ) → Option ℕ → ℕ → List (List ℕ) → List ℕ
missing_positions theirs default i [] = []
missing_positions theirs default i (symbol ∷ symbols) =
    if is_none (symbol_in theirs default symbol) then i ∷ missing_positions theirs default (suc i) symbols
    else missing_positions theirs default (suc i) symbols

-- those of two nodes; none where either is no enum
abbrev pub all_missing : Option Node → Option Node → List ℕ
all_missing (Some (EnumNode name symbols default)) (Some (EnumNode other theirs fallback)) =
    missing_positions theirs fallback 0 symbols
all_missing _ _ = []

-- a pair that is bad for want of a default has a field that lacks, and one that is for want of a symbol a missing one
abbrev pub BadPairsHaveDetails : Type 0
BadPairsHaveDetails = (W R : List Node) (p : Pair)
    → (IsBadBy W R NoDefault p → all_lacking (slice_get W p.0) (slice_get R p.1) ≡ [] → ⊥)
    × (IsBadBy W R NoSymbol p → all_missing (slice_get W p.0) (slice_get R p.1) ≡ [] → ⊥)
