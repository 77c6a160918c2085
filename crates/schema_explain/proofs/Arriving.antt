-- Where the data of a pair arrive, by how they go on.
use Rattle.std.proofs.Common.{◌≡◌, ℕ, Bool, true, false, cond, List, slice_get, Option, Some, refl, sym, ap, ◌∙◌}
use Rattle.spec_avro.specs.Node.{Node, UnionNode}
use Rattle.spec_avro.specs.WellFormed.{IsMember, IsWellFormed, is_union}
use Rattle.spec_avro.specs.Matching.{matches, place, place_at}
use Rattle.spec_avro.specs.declared.place.Destination.{Destination}
use Rattle.spec_avro.specs.declared.place.Destination.TheVariants.{Straight, IntoMember, Unmatched}
use Rattle.resolver.proofs.Fitting.{is_a_union}
use Rattle.resolver.proofs.Members.{found, member_in, no_union_at}
use Rattle.spec_avro.specs.Safety.{GoesStraight}
use Rattle.schema_explain.specs.Arrivals.{arrival, arrival_at, fate_in, placed_at, straight}
use Rattle.schema_explain.specs.declared.line.Fate.TheVariants.{Parts}
use Rattle.resolver.specs.Laws.Plain.{not_into}

no_writers_union : (R : List Node) (p : Destination) (o : Option Node) (r : ℕ) → is_union o ≡ false → arrival_at R p o r ≡ placed_at R p o r
no_writers_union R p (Some (UnionNode members)) r u = absurd cc
no_writers_union R p o r u = refl

module _ (W R : List Node) where
  pub arrival_of_union : (w r : ℕ) (members : List ℕ) → slice_get W w ≡ Some (UnionNode members) → arrival W R w r ≡ straight r Parts
  arrival_of_union w r members at = ap (λ (o : Option Node). arrival_at R (place W R w r) o r) at

  pub arrival_at_place : (w r : ℕ) (x : Destination) → is_union (slice_get W w) ≡ false → place W R w r ≡ x → arrival W R w r ≡ placed_at R x (slice_get W w) r
  arrival_at_place w r x u is = no_writers_union R (place W R w r) (slice_get W w) r u ∙ ap (λ (x : Destination). placed_at R x (slice_get W w) r) is

  pub arrival_straight : (w r : ℕ) → GoesStraight W R w r → arrival W R w r ≡ straight r (fate_in (slice_get W w) (slice_get R r))
  arrival_straight w r s = arrival_at_place w r Straight s.no_union s.straight

  module _ (formed : IsWellFormed R) where
    -- a branch is no union, so that what goes into it goes straight
    pub branch_straight : (w r position node : ℕ) → place W R w r ≡ IntoMember position node → place W R w node ≡ Straight
    branch_straight w r position node e = by_union (is_union (slice_get R r)) refl where
      by_union : (b : Bool) → is_union (slice_get R r) ≡ b → place W R w node ≡ Straight
      by_union false is = absurd (not_into (matches W R w r) position node (sym (no_union_at (matches W R w) (slice_get R r) r is) ∙ e))
      by_union true is =
          let s = is_a_union (slice_get R r) is in
          let f = found (matches W R w) 0 s.0 position node (sym (ap (λ (o : Option Node). place_at (matches W R w) o r) s.1) ∙ e) in
          let m = member_in (IsMember R r) s.0 f.steps node (formed.each r (UnionNode s.0) s.1).0 f.member in
          no_union_at (matches W R w) (slice_get R node) node m.no_union ∙ ap (λ (b : Bool). cond b Straight Unmatched) f.matching
