-- By which kind a pair of nodes is bad (Avro 1.11, "Schema Resolution").
use Rattle.std.specs.Prelude.{◌≡◌, ◌↔◌, ℕ, Bool, true, false, List, Option, Some, None, slice_get}
use Rattle.spec_avro.specs.Node.{Node, FieldNode, UnionNode}
use Rattle.spec_avro.specs.WellFormed.{is_union}
use Rattle.spec_avro.specs.declared.mismatch.MismatchKind.{MismatchKind}
use Rattle.spec_avro.specs.declared.mismatch.MismatchKind.TheVariants.{NoMatch, NoBranch, NoSymbol, NoDefault}
use Rattle.spec_avro.specs.declared.place.Destination.{Destination}
use Rattle.spec_avro.specs.declared.place.Destination.TheVariants.{Straight, IntoMember, Nowhere, Unmatched}
use Rattle.spec_avro.specs.Matching.{place}
use Rattle.resolver.specs.NextPairs.{lacks_field, lacks_symbol}
use Rattle.spec_avro.specs.Resolution.{field_lists, lacking, symbol_at, symbol_for}
use Rattle.spec_avro.specs.Safety.{GoesStraight, IsBad, Pair, is_enum}

-- ---- the rules

module _ (W R : List Node) where
  -- the pairs that mismatch whatever the datum, or for some symbol, and the kind of that mismatch
  pub data IsBadBy : MismatchKind → Pair → Type 0 where
    -- "It is an error if the two schemas do not match": the nodes do not
    no_match : {w r : ℕ} → is_union (slice_get W w) ≡ false → place W R w r ≡ Unmatched → IsBadBy NoMatch (w, r)
    -- "if none match, an error is signalled": no branch of the reader's union does
    no_branch : {w r : ℕ} → is_union (slice_get W w) ≡ false → place W R w r ≡ Nowhere → IsBadBy NoBranch (w, r)
    -- "if the reader's record schema has a field with no default value, and writer's schema does not have a field with
    -- the same name, an error is signalled"
    no_default : {w r : ℕ} (ws rs : List FieldNode) (g : FieldNode) → GoesStraight W R w r
        → field_lists (slice_get W w) (slice_get R r) ≡ Some (ws, rs) → lacking ws rs ≡ Some g
        → IsBadBy NoDefault (w, r)
    -- "if the writer's symbol is not present in the reader's enum and the reader has a default value, then that value
    -- is used, otherwise an error is signalled"
    no_symbol : {w r : ℕ} (i : ℕ) (symbol : List ℕ) → GoesStraight W R w r → symbol_at (slice_get W w) i ≡ Some symbol
        → is_enum (slice_get R r) ≡ true → symbol_for (slice_get R r) symbol ≡ None → IsBadBy NoSymbol (w, r)

-- a pair is bad just where it is by some kind
abbrev pub BadPairsHaveKinds : Type 0
BadPairsHaveKinds = (W R : List Node) (p : Pair) → IsBad W R p ↔ ((kind : MismatchKind) × IsBadBy W R kind p)

-- ---- the kind as a function: no pair is bad by two kinds

abbrev pub straight_kind : Bool → Bool → Option MismatchKind
straight_kind true symbol = Some NoDefault
straight_kind false true = Some NoSymbol
straight_kind false false = None

abbrev pub placed_kind : Destination → Option Node → Option Node → Option MismatchKind
placed_kind Straight wk rk = straight_kind (lacks_field wk rk) (lacks_symbol wk rk)
placed_kind (IntoMember position node) wk rk = None
placed_kind Nowhere wk rk = Some NoBranch
placed_kind Unmatched wk rk = Some NoMatch

abbrev pub kind_from : Destination → Option Node → Option Node → Option MismatchKind
kind_from place (Some (UnionNode members)) rk = None
kind_from place wk rk = placed_kind place wk rk

module _ (W R : List Node) where
  unfoldable pub kind_of : Pair → Option MismatchKind
  kind_of p = kind_from (place W R p.0 p.1) (slice_get W p.0) (slice_get R p.1)
