-- The list of next pairs, and the test for bad ones, say what the relations say.
use Rattle.std.proofs.Common.{◌≡◌, ℕ, zero, suc, Bool, true, false, ◌||◌, List, [], ◌∷◌, ◌++◌, map, slice_get, Option, Some, None, is_none, is_some, option_to_list, refl, sym, ap, subst, ◌∙◌, inl, inr, ◌⊎◌}
use Rattle.spec_avro.specs.Node.{Node, FieldNode, EnumNode, UnionNode}
use Rattle.spec_avro.specs.WellFormed.{is_union}
use Rattle.spec_avro.specs.declared.place.Partner.{Partner}
use Rattle.spec_avro.specs.declared.place.Route.{Route}
use Rattle.spec_avro.specs.declared.place.Destination.{Destination}
use Rattle.spec_avro.specs.declared.place.Destination.TheVariants.{Straight, IntoMember, Nowhere, Unmatched}
use Rattle.spec_avro.specs.Matching.{both_items, both_values, place}
use Rattle.resolver.specs.NextPairs.{Among, bad_from, is_bad, lacks_field, lacks_symbol, next_pairs, pairs_from, part_pairs, partner_pairs, placed_badly, placed_pairs, some_missing}
use Rattle.spec_avro.specs.Options.{given}
use Rattle.spec_avro.specs.Partners.{routes}
use Rattle.spec_avro.specs.Resolution.{field_lists, lacking, symbol_at, symbol_for, symbol_in}
use Rattle.spec_avro.specs.Safety.{GoesStraight, IsBad, LeadsTo, Pair, is_enum, no_branch, no_default, no_match, no_symbol, to_branch, to_field, to_items, to_member, to_values}
use Rattle.resolver.proofs.Fitting.{is_a_union}
use Rattle.resolver.specs.Laws.Plain.{nothing, either, symbol_there, some_symbol, missing_there}
use Rattle.std.proofs.lemmas.Bool.{or_left, or_right}

-- ---- lists

in_either : (q : Pair) (ps qs : List Pair) → Among q (ps ++ qs) → Among q ps ⊎ Among q qs
in_either q [] qs a = inr a
in_either q (p ∷ ps) qs (inl e) = inl (inl e)
in_either q (p ∷ ps) qs (inr a) = elim (in_either q ps qs a) [ inl b ↦ inl (inr b) | inr b ↦ inr b ]

in_front : (q : Pair) (ps qs : List Pair) → Among q ps → Among q (ps ++ qs)
in_front q [] qs a = absurd a
in_front q (p ∷ ps) qs (inl e) = inl e
in_front q (p ∷ ps) qs (inr a) = inr (in_front q ps qs a)

after : (q : Pair) (ps qs : List Pair) → Among q qs → Among q (ps ++ qs)
after q [] qs a = a
after q (p ∷ ps) qs a = inr (after q ps qs a)

the_one : (q : Pair) (o : Option Pair) → Among q (option_to_list o) → o ≡ Some q
the_one q None a = absurd a
the_one q (Some p) (inl e) = ap Some (sym e)
the_one q (Some p) (inr a) = absurd a

one_there : (q : Pair) (o : Option Pair) → o ≡ Some q → Among q (option_to_list o)
one_there q None e = absurd cc
one_there q (Some p) e = inl (let same : q ≡ p = cc in same)

some_member : (ms : List ℕ) (q : Pair) (r : ℕ) → Among q (map (λ m. (m, r)) ms) → (i : ℕ) × (m : ℕ) × (slice_get ms i ≡ Some m) × ((m, r) ≡ q)
some_member [] q r a = absurd a
some_member (m ∷ ms) q r (inl e) = (0, m, refl, sym e)
some_member (m ∷ ms) q r (inr a) = let f = some_member ms q r a in (suc f.0, f.1, f.2, f.3)

member_there : (ms : List ℕ) (i m r : ℕ) → slice_get ms i ≡ Some m → Among (m, r) (map (λ m. (m, r)) ms)
member_there [] i m r e = absurd cc
member_there (x ∷ ms) zero m r e = let same : x ≡ m = cc in inl (ap (λ (n : ℕ). (n, r)) (sym same))
member_there (x ∷ ms) (suc i) m r e = inr (member_there ms i m r e)

pub record IsPartnered (routes : List Route) (q : Pair) : Type 0 where
  pub i : ℕ
  pub route : Route
  pub partner : Partner
  pub at : slice_get routes i ≡ Some route
  pub has : route.partner ≡ Some partner
  pub same : (route.node, partner.node) ≡ q

some_field : (routes : List Route) (q : Pair) → Among q (partner_pairs routes) → IsPartnered routes q
some_field [] q a = absurd a
some_field (r ∷ routes) q a = by_partner r.partner refl a (λ b. some_field routes q b) where
  later : IsPartnered routes q → IsPartnered (r ∷ routes) q
  later f = record { i = suc f.i; route = f.route; partner = f.partner; at = f.at; has = f.has; same = f.same }

  by_partner : (o : Option Partner) → r.partner ≡ o → Among q (given o (partner_pairs routes) (λ p. (r.node, p.node) ∷ partner_pairs routes)) → (Among q (partner_pairs routes) → IsPartnered routes q) → IsPartnered (r ∷ routes) q
  by_partner None is a rest = later (rest a)
  by_partner (Some p) is (inl e) rest = record { i = 0; route = r; partner = p; at = refl; has = is; same = sym e }
  by_partner (Some p) is (inr a) rest = later (rest a)

field_there : (routes : List Route) (i : ℕ) (route : Route) (p : Partner) → slice_get routes i ≡ Some route → route.partner ≡ Some p → Among (route.node, p.node) (partner_pairs routes)
field_there [] i route p at has = absurd cc
field_there (r ∷ routes) zero route p at has =
    let same : r ≡ route = cc in
    let its : r.partner ≡ Some p = ap (λ (x : Route). x.partner) same ∙ has in
    subst (λ (o : Option Partner). Among (route.node, p.node) (given o (partner_pairs routes) (λ p. (r.node, p.node) ∷ partner_pairs routes))) (sym its) (inl (ap (λ (x : Route). (x.node, p.node)) (sym same)))
field_there (r ∷ routes) (suc i) route p at has = past r.partner (field_there routes i route p at has) where
  past : (o : Option Partner) → Among (route.node, p.node) (partner_pairs routes) → Among (route.node, p.node) (given o (partner_pairs routes) (λ p. (r.node, p.node) ∷ partner_pairs routes))
  past None a = a
  past (Some q) a = inr a

-- ---- the pairs that a pair leads to

not_union : (p : Destination) (w r : Option Node) (n m : ℕ) → is_union w ≡ false → pairs_from p w r n m ≡ placed_pairs p w r n
not_union p (Some (UnionNode ms)) r n m u = absurd cc
not_union p w r n m u = refl

not_union_bad : (p : Destination) (w r : Option Node) → is_union w ≡ false → bad_from p w r ≡ placed_badly p w r
not_union_bad p (Some (UnionNode ms)) r u = absurd cc
not_union_bad p w r u = refl

module _ (W R : List Node) where
  in_parts : (w r : ℕ) (q : Pair) → GoesStraight W R w r → Among q (part_pairs (slice_get W w) (slice_get R r)) → LeadsTo W R (w, r) q
  in_parts w r q s a = elim (in_either q (option_to_list (both_items W' R') ++ option_to_list (both_values W' R')) (given (field_lists W' R') [] (λ p. partner_pairs (routes p.0 p.1))) a) [
    | inl b ↦ elim (in_either q (option_to_list (both_items W' R')) (option_to_list (both_values W' R')) b) [
      | inl c ↦ to_items s (the_one q (both_items W' R') c)
      | inr c ↦ to_values s (the_one q (both_values W' R') c)
    ]
    | inr b ↦ of_fields (field_lists W' R') refl b
  ] where
    W' : Option Node
    W' = slice_get W w

    R' : Option Node
    R' = slice_get R r

    of_fields : (o : Option (List FieldNode × List FieldNode)) → field_lists (slice_get W w) (slice_get R r) ≡ o → Among q (given o [] (λ p. partner_pairs (routes p.0 p.1))) → LeadsTo W R (w, r) q
    of_fields None is a = absurd a
    of_fields (Some p) is a =
        let f = some_field (routes p.0 p.1) q a in
        subst (LeadsTo W R (w, r)) f.same (to_field f.i p.0 p.1 f.route f.partner s is f.at f.has)

  pub among_leads : (p q : Pair) → Among q (next_pairs W R p) → LeadsTo W R p q
  unfolding next_pairs
  among_leads p q a = by_union (is_union (slice_get W p.0)) refl where
    by_place : (is_union (slice_get W p.0) ≡ false) → (x : Destination) → place W R p.0 p.1 ≡ x → Among q (placed_pairs x (slice_get W p.0) (slice_get R p.1) p.0) → LeadsTo W R p q
    by_place u Straight is b = in_parts p.0 p.1 q (record { no_union = u; straight = is }) b
    by_place u (IntoMember position node) is (inl e) = subst (LeadsTo W R p) (sym e) (to_branch position u is)
    by_place u (IntoMember position node) is (inr b) = absurd b
    by_place u Nowhere is b = absurd b
    by_place u Unmatched is b = absurd b

    by_union : (b : Bool) → is_union (slice_get W p.0) ≡ b → LeadsTo W R p q
    by_union true u =
        let m = is_a_union (slice_get W p.0) u in
        let f = some_member m.0 q p.1 (subst (λ (o : Option Node). Among q (pairs_from (place W R p.0 p.1) o (slice_get R p.1) p.0 p.1)) m.1 a) in
        subst (LeadsTo W R p) f.3 (to_member f.0 m.0 m.1 f.2)
    by_union false u = by_place u (place W R p.0 p.1) refl (subst (Among q) (not_union (place W R p.0 p.1) (slice_get W p.0) (slice_get R p.1) p.0 p.1 u) a)

  straight_there : (w r : ℕ) (q : Pair) → GoesStraight W R w r → Among q (part_pairs (slice_get W w) (slice_get R r)) → Among q (next_pairs W R (w, r))
  unfolding next_pairs
  straight_there w r q s a = subst (Among q) (sym (not_union (place W R w r) (slice_get W w) (slice_get R r) w r s.no_union ∙ ap (λ (x : Destination). placed_pairs x (slice_get W w) (slice_get R r) w) s.straight)) a

  pub leads_among : (p q : Pair) → LeadsTo W R p q → Among q (next_pairs W R p)
  unfolding next_pairs
  leads_among p q (to_member {w = w} {r = r} {member = m} i ms at is) = subst (λ (o : Option Node). Among (m, r) (pairs_from (place W R w r) o (slice_get R r) w r)) (sym at) (member_there ms i m r is)
  leads_among p q (to_branch {w = w} {r = r} {node = node} position u is) = subst (Among (w, node)) (sym (not_union (place W R w r) (slice_get W w) (slice_get R r) w r u ∙ ap (λ (x : Destination). placed_pairs x (slice_get W w) (slice_get R r) w) is)) (inl refl)
  leads_among p q (to_items {w = w} {r = r} s is) = straight_there w r q s (in_front q (option_to_list (both_items (slice_get W w) (slice_get R r)) ++ option_to_list (both_values (slice_get W w) (slice_get R r))) _ (in_front q (option_to_list (both_items (slice_get W w) (slice_get R r))) _ (one_there q (both_items (slice_get W w) (slice_get R r)) is)))
  leads_among p q (to_values {w = w} {r = r} s is) = straight_there w r q s (in_front q (option_to_list (both_items (slice_get W w) (slice_get R r)) ++ option_to_list (both_values (slice_get W w) (slice_get R r))) _ (after q (option_to_list (both_items (slice_get W w) (slice_get R r))) _ (one_there q (both_values (slice_get W w) (slice_get R r)) is)))
  leads_among p q (to_field {w = w} {r = r} i ws rs route partner s lists at has) = straight_there w r q s (after q (option_to_list (both_items (slice_get W w) (slice_get R r)) ++ option_to_list (both_values (slice_get W w) (slice_get R r))) _
      (subst (λ (o : Option (List FieldNode × List FieldNode)). Among (route.node, partner.node) (given o [] (λ p. partner_pairs (routes p.0 p.1)))) (sym lists) (field_there (routes ws rs) i route partner at has)))

-- ---- bad pairs

missing_told : (w r : Option Node) → lacks_symbol w r ≡ true → (i : ℕ) × (symbol : List ℕ) × (symbol_at w i ≡ Some symbol) × (is_enum r ≡ true) × (symbol_for r symbol ≡ None)
missing_told (Some (EnumNode n symbols default)) (Some (EnumNode m theirs fallback)) e = let f = some_symbol theirs fallback symbols e in (f.0, f.1, f.2, refl, f.3)
missing_told w r e = absurd cc

lack_told : (o : Option (List FieldNode × List FieldNode)) → given o false (λ p. is_some (lacking p.0 p.1)) ≡ true → (ws : List FieldNode) × (rs : List FieldNode) × (g : FieldNode) × (o ≡ Some (ws, rs)) × (lacking ws rs ≡ Some g)
lack_told None e = absurd cc
lack_told (Some p) e = one (lacking p.0 p.1) refl e where
  one : (o : Option FieldNode) → lacking p.0 p.1 ≡ o → is_some o ≡ true → (ws : List FieldNode) × (rs : List FieldNode) × (g : FieldNode) × (Some p ≡ Some (ws, rs)) × (lacking ws rs ≡ Some g)
  one None is e = absurd cc
  one (Some g) is e = (p.0, p.1, g, refl, is)

module _ (W R : List Node) where
  pub told_bad : (p : Pair) → is_bad W R p ≡ true → IsBad W R p
  unfolding is_bad
  told_bad p e = by_union (is_union (slice_get W p.0)) refl where
    straight : GoesStraight W R p.0 p.1 → (lacks_field (slice_get W p.0) (slice_get R p.1) || lacks_symbol (slice_get W p.0) (slice_get R p.1)) ≡ true → IsBad W R p
    straight s h = elim (either (lacks_field (slice_get W p.0) (slice_get R p.1)) (lacks_symbol (slice_get W p.0) (slice_get R p.1)) h) [
      | inl l ↦ (let f = lack_told (field_lists (slice_get W p.0) (slice_get R p.1)) l in no_default f.0 f.1 f.2 s f.3 f.4)
      | inr l ↦ (let f = missing_told (slice_get W p.0) (slice_get R p.1) l in no_symbol f.0 f.1 s f.2 f.3 f.4)
    ]

    by_place : is_union (slice_get W p.0) ≡ false → (x : Destination) → place W R p.0 p.1 ≡ x → placed_badly x (slice_get W p.0) (slice_get R p.1) ≡ true → IsBad W R p
    by_place u Straight is h = straight (record { no_union = u; straight = is }) h
    by_place u (IntoMember position node) is h = absurd cc
    by_place u Nowhere is h = no_branch u is
    by_place u Unmatched is h = no_match u is

    by_union : (b : Bool) → is_union (slice_get W p.0) ≡ b → IsBad W R p
    by_union true u = let m = is_a_union (slice_get W p.0) u in absurd (let clash : false ≡ true = sym (ap (λ (o : Option Node). bad_from (place W R p.0 p.1) o (slice_get R p.1)) m.1) ∙ e in cc)
    by_union false u = by_place u (place W R p.0 p.1) refl (sym (not_union_bad (place W R p.0 p.1) (slice_get W p.0) (slice_get R p.1) u) ∙ e)

  bad_at : (w r : ℕ) (x : Destination) → is_union (slice_get W w) ≡ false → place W R w r ≡ x → placed_badly x (slice_get W w) (slice_get R r) ≡ true → is_bad W R (w, r) ≡ true
  unfolding is_bad
  bad_at w r x u is h = not_union_bad (place W R w r) (slice_get W w) (slice_get R r) u ∙ ap (λ (x : Destination). placed_badly x (slice_get W w) (slice_get R r)) is ∙ h

  pub bad_told : (p : Pair) → IsBad W R p → is_bad W R p ≡ true
  bad_told p (no_match {w = w} {r = r} u is) = bad_at w r Unmatched u is refl
  bad_told p (no_branch {w = w} {r = r} u is) = bad_at w r Nowhere u is refl
  bad_told p (no_default {w = w} {r = r} ws rs g s lists lack) =
      bad_at w r Straight s.no_union s.straight (or_left (lacks_field (slice_get W w) (slice_get R r)) (lacks_symbol (slice_get W w) (slice_get R r)) (ap (λ (o : Option (List FieldNode × List FieldNode)). given o false (λ p. is_some (lacking p.0 p.1))) lists ∙ ap is_some lack))
  bad_told p (no_symbol {w = w} {r = r} i symbol s at is none) =
      bad_at w r Straight s.no_union s.straight (or_right (lacks_field (slice_get W w) (slice_get R r)) (lacks_symbol (slice_get W w) (slice_get R r)) (missing_there (slice_get W w) (slice_get R r) i symbol at is none))
