-- What is reached is a pair of nodes of both schemas, so no more pairs are reached than there are such pairs.
use Rattle.std.proofs.Common.{◌≡◌, ℕ, zero, suc, ◌+◌, ◌*◌, ◌<◌, ◌≤◌, Bool, true, false, cond, List, [], ◌∷◌, length, get_or, replicate, slice_get, Option, Some, IfSome, refl, sym, ap, subst, ◌∙◌, inl, inr, arith}
use Rattle.std.proofs.Math.ListN.{set}
use Rattle.std.proofs.lemmas.Bool.{cases_eq}
use Rattle.std.proofs.lemmas.List.{get_or-set_other, length-replicate, length-set}
use Rattle.std.specs.List.{AllByRecursion}
use Rattle.spec_avro.specs.Node.{Node, FieldNode, Names, ArrayNode, MapNode, RecordNode, UnionNode}
use Rattle.spec_avro.specs.WellFormed.{IsMember, IsWellFormed, is_union}
use Rattle.spec_avro.specs.declared.place.Partner.{Partner}
use Rattle.spec_avro.specs.declared.place.Route.{Route}
use Rattle.spec_avro.specs.declared.place.Destination.TheVariants.{Straight, IntoMember, Unmatched}
use Rattle.spec_avro.specs.Matching.{both_items, both_values, matches, place, place_at}
use Rattle.resolver.specs.Partners.{AreRoutes}
use Rattle.spec_avro.specs.Partners.{routes}
use Rattle.resolver.proofs.Fitting.{is_a_union}
use Rattle.resolver.proofs.Members.{found, member_in, no_union_at}
use Rattle.resolver.specs.NextPairs.{Among}
use Rattle.resolver.specs.Pairs.{AreWithin, marks}
use Rattle.spec_avro.specs.Resolution.{field_lists}
use Rattle.spec_avro.specs.Safety.{LeadsTo, Pair, Reached, root, step, to_branch, to_field, to_items, to_member, to_values}
use Rattle.resolver.proofs.Marks.{all_false, count_set, in_table, marks_le, none_marked, same_place}
use Rattle.resolver.proofs.Within.{routes_within}
use Rattle.schema_check.specs.Pairs.{AreOnce}
use Rattle.resolver.specs.Laws.Plain.{not_into}

-- ---- a list of pairs, each once

-- as many marks as pairs, and only for these
pub record HasMarks (writers readers : ℕ) (ps : List Pair) : Type 0 where
  pub bs : List Bool
  pub all : length bs ≡ writers * readers
  pub counted : marks bs ≡ length ps
  pub marked : (p : Pair) → p.1 < readers → get_or bs (p.0 * readers + p.1) false ≡ true → Among p ps

clear : (b : Bool) → (b ≡ true → ⊥) → b ≡ false
clear true never = absurd (never refl)
clear false never = refl

pub has_marks : (writers readers : ℕ) (ps : List Pair) → AreOnce ps → AreWithin writers readers ps → HasMarks writers readers ps
has_marks writers readers [] o w = record {
  bs = replicate (writers * readers) false;
  all = length-replicate (writers * readers) false;
  counted = none_marked (writers * readers);
  marked = λ p b e. absurd (all_false (replicate (writers * readers) false) (none_marked (writers * readers)) (p.0 * readers + p.1) e);
}
has_marks writers readers (q ∷ ps) o w =
    let h = has_marks writers readers ps o.1 w.1 in
    let room : q.0 * readers + q.1 < length h.bs = rw h.all (in_table writers readers q.0 q.1 w.0.0 w.0.1) in
    let free : get_or h.bs (q.0 * readers + q.1) false ≡ false = clear (get_or h.bs (q.0 * readers + q.1) false) (λ e. o.0 (h.marked q w.0.1 e)) in
    record {
      bs = set h.bs (q.0 * readers + q.1) true;
      all = length-set h.bs (q.0 * readers + q.1) true ∙ h.all;
      counted = (let one = count_set h.bs (q.0 * readers + q.1) room free in omega (arith, one, h.counted));
      marked = λ p b e. elim (cases_eq (p.0 * readers + p.1) (q.0 * readers + q.1)) [
        | inl is ↦ inl (same_place p q readers b w.0.1 is)
        | inr ne ↦ inr (h.marked p b (sym (get_or-set_other h.bs (q.0 * readers + q.1) (p.0 * readers + p.1) true false ne) ∙ e))
      ];
    }

pub few_pairs : (writers readers : ℕ) (ps : List Pair) → AreOnce ps → AreWithin writers readers ps → length ps ≤ writers * readers
few_pairs writers readers ps o w = let h = has_marks writers readers ps o w in let le = marks_le h.bs in omega (arith, le, h.counted, h.all)

-- ---- what is reached

both_arrays : (w r : Option Node) (q : Pair) → both_items w r ≡ Some q → (w ≡ Some (ArrayNode q.0)) × (r ≡ Some (ArrayNode q.1))
both_arrays (Some (ArrayNode i)) (Some (ArrayNode j)) q e = let same : (i, j) ≡ q = cc in (ap (λ (p : Pair). Some (ArrayNode p.0)) same, ap (λ (p : Pair). Some (ArrayNode p.1)) same)
both_arrays w r q e = absurd cc

both_maps : (w r : Option Node) (q : Pair) → both_values w r ≡ Some q → (w ≡ Some (MapNode q.0)) × (r ≡ Some (MapNode q.1))
both_maps (Some (MapNode i)) (Some (MapNode j)) q e = let same : (i, j) ≡ q = cc in (ap (λ (p : Pair). Some (MapNode p.0)) same, ap (λ (p : Pair). Some (MapNode p.1)) same)
both_maps w r q e = absurd cc

both_records : (w r : Option Node) (ws rs : List FieldNode) → field_lists w r ≡ Some (ws, rs) → (names : Names) × (others : Names) × (w ≡ Some (RecordNode names ws)) × (r ≡ Some (RecordNode others rs))
both_records (Some (RecordNode n fs)) (Some (RecordNode m gs)) ws rs e =
    let same : (fs, gs) ≡ (ws, rs) = cc in
    (n, m, ap (λ (x : List FieldNode × List FieldNode). Some (RecordNode n x.0)) same, ap (λ (x : List FieldNode × List FieldNode). Some (RecordNode m x.1)) same)
both_records w r ws rs e = absurd cc

route_within : (writers readers places : ℕ) (routes : List Route) (i : ℕ) (route : Route) (p : Partner) → AreRoutes writers readers places routes → slice_get routes i ≡ Some route → route.partner ≡ Some p → (route.node < writers) × (p.node < readers)
route_within writers readers places [] i route p a at has = absurd cc
route_within writers readers places (x ∷ routes) zero route p a at has =
    let same : x ≡ route = cc in
    let its : x.partner ≡ Some p = ap (λ (y : Route). y.partner) same ∙ has in
    let there = subst (λ (o : Option Partner). IfSome o (λ p. (p.position < places) × (p.node < readers))) its a.0.partner in
    (subst (λ (y : Route). y.node < writers) same a.0.node, there.1)
route_within writers readers places (x ∷ routes) (suc i) route p a at has = route_within writers readers places routes i route p a.1 at has

module _ (W R : List Node) (writer : IsWellFormed W) (reader : IsWellFormed R) where
  branch_below : (w r position node : ℕ) → place W R w r ≡ IntoMember position node → node < length R
  branch_below w r position node e = by_union (is_union (slice_get R r)) refl where
    by_union : (b : Bool) → is_union (slice_get R r) ≡ b → node < length R
    by_union false u = absurd (not_into (matches W R w r) position node (sym (no_union_at (matches W R w) (slice_get R r) r u) ∙ e))
    by_union true u =
        let s = is_a_union (slice_get R r) u in
        let f = found (matches W R w) 0 s.0 position node (sym (ap (λ (o : Option Node). place_at (matches W R w) o r) s.1) ∙ e) in
        (member_in (IsMember R r) s.0 f.steps node (reader.each r (UnionNode s.0) s.1).0 f.member).below

  leads_within : (p q : Pair) → LeadsTo W R p q → (p.0 < length W) × (p.1 < length R) → (q.0 < length W) × (q.1 < length R)
  leads_within p q (to_member {w = w} {r = r} {member = m} i ms at is) b = ((member_in (IsMember W w) ms i m (writer.each w (UnionNode ms) at).0 is).below, b.1)
  leads_within p q (to_branch {w = w} {r = r} {node = node} position u is) b = (b.0, branch_below w r position node is)
  leads_within p q (to_items {w = w} {r = r} s is) b = let f = both_arrays (slice_get W w) (slice_get R r) q is in ((writer.each w (ArrayNode q.0) f.0).below, (reader.each r (ArrayNode q.1) f.1).below)
  leads_within p q (to_values {w = w} {r = r} s is) b = let f = both_maps (slice_get W w) (slice_get R r) q is in ((writer.each w (MapNode q.0) f.0).below, (reader.each r (MapNode q.1) f.1).below)
  leads_within p q (to_field {w = w} {r = r} i ws rs route partner s lists at has) b =
      let f = both_records (slice_get W w) (slice_get R r) ws rs lists in
      route_within (length W) (length R) (length rs) (routes ws rs) i route partner (routes_within (length W) (length R) ws rs (writer.each w (RecordNode f.0 ws) f.2).0 (reader.each r (RecordNode f.1 rs) f.3).0) at has

  reached_within : (p : Pair) → Reached W R p → (p.0 < length W) × (p.1 < length R)
  reached_within p root = (writer.root, reader.root)
  reached_within p (step o q r a) = leads_within o p a (reached_within o r)

  pub all_within : (ps : List Pair) → AllByRecursion (Reached W R) ps → AreWithin (length W) (length R) ps
  all_within [] a = tt
  all_within (p ∷ ps) a = (reached_within p a.0, all_within ps a.1)
