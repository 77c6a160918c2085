-- The kind that is computed is the one by which the pair is bad.
use Rattle.std.proofs.Common.{◌≡◌, ℕ, Bool, true, false, List, slice_get, Option, Some, None, refl, sym, ap, subst, ◌∙◌, inl, inr, ◌⊎◌}
use Rattle.spec_avro.specs.Node.{Node, EnumNode, UnionNode}
use Rattle.spec_avro.specs.WellFormed.{is_union}
use Rattle.spec_avro.specs.declared.mismatch.MismatchKind.{MismatchKind}
use Rattle.spec_avro.specs.declared.mismatch.MismatchKind.TheVariants.{NoMatch, NoBranch, NoSymbol, NoDefault}
use Rattle.spec_avro.specs.declared.place.Destination.{Destination}
use Rattle.spec_avro.specs.declared.place.Destination.TheVariants.{Straight, IntoMember, Nowhere, Unmatched}
use Rattle.spec_avro.specs.Matching.{place}
use Rattle.resolver.proofs.Fitting.{is_a_union}
use Rattle.schema_check.specs.BadKinds.{BadPairsHaveKinds, IsBadBy, kind_from, kind_of, no_branch, no_default, no_match, no_symbol, placed_kind, straight_kind}
use Rattle.resolver.specs.NextPairs.{lacks_field, lacks_symbol}
use Rattle.spec_avro.specs.Resolution.{field_lists, symbol_at}
use Rattle.spec_avro.specs.Safety as safe
use Rattle.spec_avro.specs.Safety.{GoesStraight, IsBad, Pair}
use Rattle.schema_check.proofs.Lacking.{lack_by, lack_there, missing_by}
use Rattle.resolver.specs.Laws.Plain.{missing_there}

not_union_kind : (p : Destination) (w r : Option Node) → is_union w ≡ false → kind_from p w r ≡ placed_kind p w r
not_union_kind p (Some (UnionNode ms)) r u = absurd cc
not_union_kind p w r u = refl

of_straight : (a b : Bool) (kind : MismatchKind) → straight_kind a b ≡ Some kind → ((a ≡ true) × (NoDefault ≡ kind)) ⊎ ((b ≡ true) × (NoSymbol ≡ kind))
of_straight true b kind e = inl (refl, (let h : NoDefault ≡ kind = cc in h))
of_straight false true kind e = inr (refl, (let h : NoSymbol ≡ kind = cc in h))
of_straight false false kind e = absurd cc

-- an enum has no fields
no_fields : (w r : Option Node) (i : ℕ) (symbol : List ℕ) → symbol_at w i ≡ Some symbol → lacks_field w r ≡ false
no_fields (Some (EnumNode n symbols default)) r i symbol e = refl
no_fields w r i symbol e = absurd cc

module _ (W R : List Node) where
  pub kind_by : (p : Pair) (kind : MismatchKind) → kind_of W R p ≡ Some kind → IsBadBy W R kind p
  unfolding kind_of
  kind_by p kind e = by_union (is_union (slice_get W p.0)) refl where
    straight : GoesStraight W R p.0 p.1 → straight_kind (lacks_field (slice_get W p.0) (slice_get R p.1)) (lacks_symbol (slice_get W p.0) (slice_get R p.1)) ≡ Some kind → IsBadBy W R kind p
    straight s h = elim (of_straight (lacks_field (slice_get W p.0) (slice_get R p.1)) (lacks_symbol (slice_get W p.0) (slice_get R p.1)) kind h) [
      | inl l ↦ (let f = lack_by (field_lists (slice_get W p.0) (slice_get R p.1)) l.0 in subst (λ (k : MismatchKind). IsBadBy W R k p) l.1 (no_default f.0 f.1 f.2 s f.3 f.4))
      | inr l ↦ (let f = missing_by (slice_get W p.0) (slice_get R p.1) l.0 in subst (λ (k : MismatchKind). IsBadBy W R k p) l.1 (no_symbol f.0 f.1 s f.2 f.3 f.4))
    ]

    by_place : is_union (slice_get W p.0) ≡ false → (x : Destination) → place W R p.0 p.1 ≡ x → placed_kind x (slice_get W p.0) (slice_get R p.1) ≡ Some kind → IsBadBy W R kind p
    by_place u Straight is h = straight (record { no_union = u; straight = is }) h
    by_place u (IntoMember position node) is h = absurd cc
    by_place u Nowhere is h = subst (λ (k : MismatchKind). IsBadBy W R k p) (let k : NoBranch ≡ kind = cc in k) (no_branch u is)
    by_place u Unmatched is h = subst (λ (k : MismatchKind). IsBadBy W R k p) (let k : NoMatch ≡ kind = cc in k) (no_match u is)

    by_union : (b : Bool) → is_union (slice_get W p.0) ≡ b → IsBadBy W R kind p
    by_union true u = let m = is_a_union (slice_get W p.0) u in absurd (let clash : None ≡ Some kind = sym (ap (λ (o : Option Node). kind_from (place W R p.0 p.1) o (slice_get R p.1)) m.1) ∙ e in cc)
    by_union false u = by_place u (place W R p.0 p.1) refl (sym (not_union_kind (place W R p.0 p.1) (slice_get W p.0) (slice_get R p.1) u) ∙ e)

  kind_at : (w r : ℕ) (x : Destination) (kind : MismatchKind) → is_union (slice_get W w) ≡ false → place W R w r ≡ x → placed_kind x (slice_get W w) (slice_get R r) ≡ Some kind → kind_of W R (w, r) ≡ Some kind
  unfolding kind_of
  kind_at w r x kind u is h = not_union_kind (place W R w r) (slice_get W w) (slice_get R r) u ∙ ap (λ (x : Destination). placed_kind x (slice_get W w) (slice_get R r)) is ∙ h

  pub by_kind : (p : Pair) (kind : MismatchKind) → IsBadBy W R kind p → kind_of W R p ≡ Some kind
  by_kind p kind (no_match {w = w} {r = r} u is) = kind_at w r Unmatched NoMatch u is refl
  by_kind p kind (no_branch {w = w} {r = r} u is) = kind_at w r Nowhere NoBranch u is refl
  by_kind p kind (no_default {w = w} {r = r} ws rs g s lists lack) =
      kind_at w r Straight NoDefault s.no_union s.straight (ap (λ (b : Bool). straight_kind b (lacks_symbol (slice_get W w) (slice_get R r))) (lack_there (slice_get W w) (slice_get R r) ws rs g lists lack))
  by_kind p kind (no_symbol {w = w} {r = r} i symbol s at is none) =
      kind_at w r Straight NoSymbol s.no_union s.straight (ap (λ (b : Bool). straight_kind b (lacks_symbol (slice_get W w) (slice_get R r))) (no_fields (slice_get W w) (slice_get R r) i symbol at) ∙ ap (λ (b : Bool). straight_kind false b) (missing_there (slice_get W w) (slice_get R r) i symbol at is none))

  -- ---- bad by some kind

  pub some_kind : (p : Pair) → IsBad W R p → (kind : MismatchKind) × IsBadBy W R kind p
  some_kind p (safe.no_match u is) = (NoMatch, no_match u is)
  some_kind p (safe.no_branch u is) = (NoBranch, no_branch u is)
  some_kind p (safe.no_default ws rs g s lists lack) = (NoDefault, no_default ws rs g s lists lack)
  some_kind p (safe.no_symbol i symbol s at is none) = (NoSymbol, no_symbol i symbol s at is none)

  pub bad_by : (p : Pair) (kind : MismatchKind) → IsBadBy W R kind p → IsBad W R p
  bad_by p kind (no_match u is) = safe.no_match u is
  bad_by p kind (no_branch u is) = safe.no_branch u is
  bad_by p kind (no_default ws rs g s lists lack) = safe.no_default ws rs g s lists lack
  bad_by p kind (no_symbol i symbol s at is none) = safe.no_symbol i symbol s at is none

pub bad_pairs_have_kinds : BadPairsHaveKinds
bad_pairs_have_kinds W R p = (some_kind W R p, λ k. bad_by W R p k.0 k.1)
