-- What a bad pair is about is not nothing.
use Rattle.std.proofs.Common.{◌≡◌, ℕ, zero, suc, Bool, true, false, List, [], ◌∷◌, slice_get, Option, Some, None, is_none, refl, ap, subst, ◌∙◌}
use Rattle.std.specs.Prelude.{if◌then◌else◌}
use Rattle.spec_avro.specs.Node.{Node, EnumNode, FieldNode}
use Rattle.spec_avro.specs.declared.mismatch.MismatchKind.{MismatchKind}
use Rattle.spec_avro.specs.declared.mismatch.MismatchKind.TheVariants.{NoDefault, NoSymbol}
use Rattle.spec_avro.specs.Options.{given}
use Rattle.spec_avro.specs.Partners.{routes}
use Rattle.spec_avro.specs.declared.place.Route.{Route}
use Rattle.spec_avro.specs.Resolution.{lacking_from, lacks, symbol_at, symbol_for, symbol_in}
use Rattle.spec_avro.specs.Safety.{Pair, is_enum}
use Rattle.schema_check.specs.BadKinds.{IsBadBy, no_branch, no_default, no_match, no_symbol}
use Rattle.schema_check.specs.Details.{BadPairsHaveDetails, all_lacking, all_missing, lacking_positions, missing_positions}

some_lacking : (routes : List Route) (j : ℕ) (rs : List FieldNode) (g : FieldNode) → lacking_from routes j rs ≡ Some g → lacking_positions routes j rs ≡ [] → ⊥
some_lacking routes j [] g e none = absurd cc
some_lacking routes j (x ∷ rs) g e none = by_case (lacks routes j x) e none (some_lacking routes (suc j) rs g) where
  by_case : (b : Bool) → (if b then Some x else lacking_from routes (suc j) rs) ≡ Some g → (if b then j ∷ lacking_positions routes (suc j) rs else lacking_positions routes (suc j) rs) ≡ []
      → (lacking_from routes (suc j) rs ≡ Some g → lacking_positions routes (suc j) rs ≡ [] → ⊥) → ⊥
  by_case true e none rest = cc
  by_case false e none rest = rest e none

missing_at : (theirs : List (List ℕ)) (default : Option ℕ) (k : ℕ) (symbols : List (List ℕ)) (i : ℕ) (symbol : List ℕ) → slice_get symbols i ≡ Some symbol → symbol_in theirs default symbol ≡ None → missing_positions theirs default k symbols ≡ [] → ⊥
missing_at theirs default k [] i symbol at lost none = absurd cc
missing_at theirs default k (s ∷ ss) zero symbol at lost none =
    by_case (is_none (symbol_in theirs default s)) (let same : s ≡ symbol = cc in ap (λ (x : List ℕ). is_none (symbol_in theirs default x)) same ∙ ap is_none lost) none where
      by_case : (b : Bool) → b ≡ true → (if b then k ∷ missing_positions theirs default (suc k) ss else missing_positions theirs default (suc k) ss) ≡ [] → ⊥
      by_case true is none = cc
      by_case false is none = absurd cc
missing_at theirs default k (s ∷ ss) (suc i) symbol at lost none = by_case (is_none (symbol_in theirs default s)) none (missing_at theirs default (suc k) ss i symbol at lost) where
  by_case : (b : Bool) → (if b then k ∷ missing_positions theirs default (suc k) ss else missing_positions theirs default (suc k) ss) ≡ [] → (missing_positions theirs default (suc k) ss ≡ [] → ⊥) → ⊥
  by_case true none rest = cc
  by_case false none rest = rest none

lost_symbol : (w r : Option Node) (i : ℕ) (symbol : List ℕ) → symbol_at w i ≡ Some symbol → is_enum r ≡ true → symbol_for r symbol ≡ None → all_missing w r ≡ [] → ⊥
lost_symbol (Some (EnumNode n symbols default)) (Some (EnumNode m theirs fallback)) i symbol at is lost none = missing_at theirs fallback 0 symbols i symbol at lost none
lost_symbol w r i symbol at is lost none = absurd cc

module _ (W R : List Node) where
  lacking_there : (kind : MismatchKind) (p : Pair) → IsBadBy W R kind p → kind ≡ NoDefault → all_lacking (slice_get W p.0) (slice_get R p.1) ≡ [] → ⊥
  lacking_there kind p (no_match u is) k none = absurd cc
  lacking_there kind p (no_branch u is) k none = absurd cc
  lacking_there kind p (no_default ws rs g s lists lack) k none = some_lacking (routes ws rs) 0 rs g lack (subst (λ (o : Option (List FieldNode × List FieldNode)). given o [] (λ p. lacking_positions (routes p.0 p.1) 0 p.1) ≡ []) lists none)
  lacking_there kind p (no_symbol i symbol s at is lost) k none = absurd cc

  missing_there : (kind : MismatchKind) (p : Pair) → IsBadBy W R kind p → kind ≡ NoSymbol → all_missing (slice_get W p.0) (slice_get R p.1) ≡ [] → ⊥
  missing_there kind p (no_match u is) k none = absurd cc
  missing_there kind p (no_branch u is) k none = absurd cc
  missing_there kind p (no_default ws rs g s lists lack) k none = absurd cc
  missing_there kind p (no_symbol {w = w} {r = r} i symbol s at is lost) k none = lost_symbol (slice_get W w) (slice_get R r) i symbol at is lost none

pub bad_pairs_have_details : BadPairsHaveDetails
bad_pairs_have_details W R p = (λ bad. lacking_there W R NoDefault p bad refl, λ bad. missing_there W R NoSymbol p bad refl)
