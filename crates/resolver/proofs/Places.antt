-- What a value in its place is.
use Rattle.std.proofs.Common.{◌≡◌, ℕ, Bool, true, false, cond, List, slice_get, Option, Some, Ok, Err, refl, sym, ap, subst, ◌∙◌, arith}
use Rattle.spec_avro.specs.Node.{Node, UnionNode}
use Rattle.spec_avro.specs.WellFormed.{IsMember, IsWellFormed, is_union}
use Rattle.spec_avro.specs.Datum.{Datum, UnionDatum}
use Rattle.spec_avro.specs.Conforming.{Conforms}
use Rattle.spec_avro.specs.declared.place.Destination.{Destination}
use Rattle.spec_avro.specs.declared.place.Destination.TheVariants.{Straight, IntoMember, Nowhere, Unmatched}
use Rattle.spec_avro.specs.Matching.{first_member, matches, place, place_at}
use Rattle.spec_avro.specs.Resolution.{Resolved, ◌>>=◌, placed}
use Rattle.resolver.proofs.Fitting.{is_a_union}
use Rattle.resolver.proofs.Members.{found, member_in, never_else, no_union_at}

-- a value that was made, in the member that it was made for
pub wrapped : (x : Resolved Datum) (position : ℕ) (e : Datum) → (x >>= λ d. Ok (UnionDatum position d)) ≡ Ok e → (d : Datum) × (x ≡ Ok d) × (UnionDatum position d ≡ e)
wrapped (Ok d) position e h = (d, refl, cc)
wrapped (Err m) position e h = absurd cc

module _ (W R : List Node) (formed : IsWellFormed R) (w : ℕ) (value : ℕ → Resolved Datum) (inner : (node : ℕ) (d : Datum) → is_union (slice_get R node) ≡ false → matches W R w node ≡ true → value node ≡ Ok d → Conforms R node d) where
  in_member : (r : ℕ) (ms : List ℕ) (p : Destination) (e : Datum) → slice_get R r ≡ Some (UnionNode ms) → first_member (matches W R w) 0 ms ≡ p → placed p w r value ≡ Ok e → Conforms R r e
  in_member r ms Straight e at is h = absurd (never_else (matches W R w) 0 ms Straight is refl)
  in_member r ms Nowhere e at is h = absurd cc
  in_member r ms Unmatched e at is h = absurd cc
  in_member r ms (IntoMember position node) e at is h =
      let f = found (matches W R w) 0 ms position node is in
      let made = wrapped (value node) position e h in
      let here : slice_get ms position ≡ Some node = ap (slice_get ms) (let same : position ≡ f.steps = omega (arith, f.at) in same) ∙ f.member in
      let member = member_in (IsMember R r) ms position node (formed.each r (UnionNode ms) at).0 here in
      subst (Conforms R r) made.2 (ms, at, node, here, inner node made.0 member.no_union f.matching made.1)

  straight : (b : Bool) (r : ℕ) (e : Datum) → placed (cond b Straight Unmatched) w r value ≡ Ok e → (b ≡ true) × (value r ≡ Ok e)
  straight true r e h = (refl, h)
  straight false r e h = absurd cc

  by_kind : (b : Bool) (r : ℕ) (e : Datum) → is_union (slice_get R r) ≡ b → placed (place W R w r) w r value ≡ Ok e → Conforms R r e
  by_kind true r e is h =
      let u = is_a_union (slice_get R r) is in
      in_member r u.0 (first_member (matches W R w) 0 u.0) e u.1 refl (sym (ap (λ (o : Option Node). placed (place_at (matches W R w) o r) w r value) u.1) ∙ h)
  by_kind false r e is h =
      let s = straight (matches W R w r) r e (sym (ap (λ (p : Destination). placed p w r value) (no_union_at (matches W R w) (slice_get R r) r is)) ∙ h) in
      inner r e is s.0 s.1

  pub placed_whole : (r : ℕ) (e : Datum) → placed (place W R w r) w r value ≡ Ok e → Conforms R r e
  placed_whole r e h = by_kind (is_union (slice_get R r)) r e refl h
