-- The entries of two nodes have one for each branch, item, value and field.
use Rattle.std.proofs.Common.{◌≡◌, ℕ, zero, suc, ◌+◌, ◌==◌, Bool, true, false, cond, List, [], ◌∷◌, ◌++◌, slice_get, Option, Some, None, option_map, refl, sym, ap, subst, ◌∙◌, arith}
use Rattle.std.specs.List.{AllByRecursion}
use Rattle.spec_avro.specs.Node.{Node, FieldNode, ArrayNode, MapNode, RecordNode}
use Rattle.spec_avro.specs.Matching.{both_items, both_values}
use Rattle.spec_avro.specs.Options.{given}
use Rattle.spec_avro.specs.Partners.{PartnersAreApart, goes_to, partner_at, partners, routes, routes_to}
use Rattle.spec_avro.specs.declared.place.Partner.{Partner}
use Rattle.spec_avro.specs.declared.place.Route.{Route}
use Rattle.spec_avro.specs.WellFormed.{HaveDistinctNames}
use Rattle.spec_avro.specs.Resolution.{field_lists}
use Rattle.spec_avro.specs.Safety.{Pair}
use Rattle.schema_explain.specs.Arrivals.{fate_in}
use Rattle.schema_explain.specs.Explanation.{has_parts}
use Rattle.schema_explain.specs.Parts.{absent_line, branch_entries, dropped, due, field_entries, field_entry, parts_of, record_entries, source}
use Rattle.schema_explain.specs.declared.entries.Entry.{Entry}
use Rattle.schema_explain.specs.declared.entries.Entry.TheVariants.{Ready}
use Rattle.schema_explain.specs.declared.entries.Whole.{Whole}
use Rattle.schema_explain.specs.declared.line.Part.TheVariants.{Field, Item, Value, Branch}

-- ---- the kinds of nodes that have parts

pub items_have_parts : (w r : Option Node) (q : Pair) → both_items w r ≡ Some q → has_parts (fate_in w r) ≡ true
items_have_parts (Some (ArrayNode i)) (Some (ArrayNode j)) q e = refl
items_have_parts w r q e = absurd cc

pub items_are_parts : (whole : Whole) (w r : Option Node) (q : Pair) → both_items w r ≡ Some q → parts_of whole w r ≡ due whole Item q.0 q.1 ∷ []
items_are_parts whole (Some (ArrayNode i)) (Some (ArrayNode j)) q e = let same : (i, j) ≡ q = cc in ap (λ (p : Pair). due whole Item p.0 p.1 ∷ []) same
items_are_parts whole w r q e = absurd cc

pub values_have_parts : (w r : Option Node) (q : Pair) → both_values w r ≡ Some q → has_parts (fate_in w r) ≡ true
values_have_parts (Some (MapNode i)) (Some (MapNode j)) q e = refl
values_have_parts w r q e = absurd cc

pub values_are_parts : (whole : Whole) (w r : Option Node) (q : Pair) → both_values w r ≡ Some q → parts_of whole w r ≡ due whole Value q.0 q.1 ∷ []
values_are_parts whole (Some (MapNode i)) (Some (MapNode j)) q e = let same : (i, j) ≡ q = cc in ap (λ (p : Pair). due whole Value p.0 p.1 ∷ []) same
values_are_parts whole w r q e = absurd cc

pub fields_have_parts : (w r : Option Node) (ws rs : List FieldNode) → field_lists w r ≡ Some (ws, rs) → has_parts (fate_in w r) ≡ true
fields_have_parts (Some (RecordNode n fs)) (Some (RecordNode m gs)) ws rs e = refl
fields_have_parts w r ws rs e = absurd cc

pub fields_are_parts : (whole : Whole) (w r : Option Node) (ws rs : List FieldNode) → field_lists w r ≡ Some (ws, rs) → parts_of whole w r ≡ record_entries whole (routes ws rs) rs
fields_are_parts whole (Some (RecordNode n fs)) (Some (RecordNode m gs)) ws rs e =
    let same : (fs, gs) ≡ (ws, rs) = cc in ap (λ (p : List FieldNode × List FieldNode). record_entries whole (routes p.0 p.1) p.1) same
fields_are_parts whole w r ws rs e = absurd cc

-- ---- entries of a list

module _ (P : Entry → Type 0) where
  pub all_front : (es fs : List Entry) → AllByRecursion P (es ++ fs) → AllByRecursion P es
  all_front [] fs a = tt
  all_front (e ∷ es) fs a = (a.0, all_front es fs a.1)

  pub all_rest : (es fs : List Entry) → AllByRecursion P (es ++ fs) → AllByRecursion P fs
  all_rest [] fs a = a
  all_rest (e ∷ es) fs a = all_rest es fs a.1

  module _ (whole : Whole) where
    pub branch_there : (i k : ℕ) (ms : List ℕ) (m : ℕ) → slice_get ms k ≡ Some m → AllByRecursion P (branch_entries whole i ms) → P (due whole (Branch (i + k)) m whole.reader)
    branch_there i k [] m at a = absurd cc
    branch_there i zero (x ∷ ms) m at a = let same : x ≡ m = cc in let none : i ≡ i + 0 = omega arith in subst (λ (n : ℕ). P (due whole (Branch n) m whole.reader)) none (subst (λ (y : ℕ). P (due whole (Branch i) y whole.reader)) same a.0)
    branch_there i (suc k) (x ∷ ms) m at a = let next : suc i + k ≡ i + suc k = omega arith in subst (λ (n : ℕ). P (due whole (Branch n) m whole.reader)) next (branch_there (suc i) k ms m at a.1)

    pub field_there : (rs : List Route) (j k : ℕ) (gs : List FieldNode) (g : FieldNode) → slice_get gs k ≡ Some g → AllByRecursion P (field_entries whole rs j gs) → P (field_entry whole rs (j + k) g)
    field_there rs j k [] g at a = absurd cc
    field_there rs j zero (x ∷ gs) g at a = let same : x ≡ g = cc in let none : j ≡ j + 0 = omega arith in subst (λ (n : ℕ). P (field_entry whole rs n g)) none (subst (λ (y : FieldNode). P (field_entry whole rs j y)) same a.0)
    field_there rs j (suc k) (x ∷ gs) g at a = let next : suc j + k ≡ j + suc k = omega arith in subst (λ (n : ℕ). P (field_entry whole rs n g)) next (field_there rs (suc j) k gs g at a.1)

-- ---- where a field comes from

-- the first of the routes that goes there
pub record IsSource (j i : ℕ) (rs : List Route) (o : Option (ℕ × ℕ)) : Type 0 where
  pub k : ℕ
  pub route : Route
  pub partner : Partner
  pub at : slice_get rs k ≡ Some route
  pub has : route.partner ≡ Some partner
  pub there : partner.position ≡ j
  pub same : o ≡ Some (i + k, route.node)

goes_there : (j : ℕ) (r : Route) → goes_to j r ≡ true → (p : Partner) × (r.partner ≡ Some p) × (p.position ≡ j)
goes_there j r e = by_partner r.partner refl e where
  by_partner : (o : Option Partner) → r.partner ≡ o → given o false (λ p. p.position == j) ≡ true → (p : Partner) × (r.partner ≡ Some p) × (p.position ≡ j)
  by_partner None is e = absurd cc
  by_partner (Some p) is e = (p, is, grind arith)

goes_if : (j : ℕ) (r : Route) (p : Partner) → r.partner ≡ Some p → p.position ≡ j → goes_to j r ≡ true
goes_if j r p has there = ap (λ (o : Option Partner). given o false (λ p. p.position == j)) has ∙ (let same : (p.position == j) ≡ true = grind arith in same)

pub source_found : (j i : ℕ) (rs : List Route) (k : ℕ) (route : Route) (p : Partner) → slice_get rs k ≡ Some route → route.partner ≡ Some p → p.position ≡ j → IsSource j i rs (source j i rs)
source_found j i [] k route p at has there = absurd cc
source_found j i (r ∷ rs) k route p at has there = by_test (goes_to j r) refl k at (λ l e. source_found j (suc i) rs l route p e has there) where
  later : IsSource j (suc i) rs (source j (suc i) rs) → IsSource j i (r ∷ rs) (source j (suc i) rs)
  later s = record { k = suc s.k; route = s.route; partner = s.partner; at = s.at; has = s.has; there = s.there; same = s.same ∙ (let next : suc i + s.k ≡ i + suc s.k = omega arith in ap (λ (n : ℕ). Some (n, s.route.node)) next) }

  by_test : (b : Bool) → goes_to j r ≡ b → (k : ℕ) → slice_get (r ∷ rs) k ≡ Some route → ((l : ℕ) → slice_get rs l ≡ Some route → IsSource j (suc i) rs (source j (suc i) rs)) → IsSource j i (r ∷ rs) (cond b (Some (i, r.node)) (source j (suc i) rs))
  by_test true e k at rest = let f = goes_there j r e in record { k = 0; route = r; partner = f.0; at = refl; has = f.1; there = f.2; same = (let none : i ≡ i + 0 = omega arith in ap (λ (n : ℕ). Some (n, r.node)) none) }
  by_test false e zero at rest = let same : r ≡ route = cc in absurd (let clash : true ≡ false = sym (goes_if j r p (ap (λ (x : Route). x.partner) same ∙ has) there) ∙ e in cc)
  by_test false e (suc l) at rest = later (rest l at)

-- what is found is a source
pub source_is : (j i : ℕ) (rs : List Route) (s : ℕ × ℕ) → source j i rs ≡ Some s → IsSource j i rs (Some s)
source_is j i [] s e = absurd cc
source_is j i (r ∷ rs) s e = by_test (goes_to j r) refl e (λ h. source_is j (suc i) rs s h) where
  by_test : (b : Bool) → goes_to j r ≡ b → cond b (Some (i, r.node)) (source j (suc i) rs) ≡ Some s → (source j (suc i) rs ≡ Some s → IsSource j (suc i) rs (Some s)) → IsSource j i (r ∷ rs) (Some s)
  by_test true is e rest =
      let f = goes_there j r is in
      record { k = 0; route = r; partner = f.0; at = refl; has = f.1; there = f.2; same = sym e ∙ (let none : i ≡ i + 0 = omega arith in ap (λ (n : ℕ). Some (n, r.node)) none) }
  by_test false is e rest =
      let f = rest e in
      record { k = suc f.k; route = f.route; partner = f.partner; at = f.at; has = f.has; there = f.there; same = f.same ∙ (let next : suc i + f.k ≡ i + suc f.k = omega arith in ap (λ (n : ℕ). Some (n, f.route.node)) next) }

-- the partner that a route goes to
pub record IsPartnerOf (rs : List FieldNode) (ps : List (Option ℕ)) (i : ℕ) (p : Partner) : Type 0 where
  pub at : slice_get ps i ≡ Some (Some p.position)
  pub field : FieldNode
  pub is : slice_get rs p.position ≡ Some field
  pub node : p.node ≡ field.node

partner_is : (rs : List FieldNode) (o : Option ℕ) (p : Partner) → given o None (partner_at rs) ≡ Some p → (o ≡ Some p.position) × (g : FieldNode) × (slice_get rs p.position ≡ Some g) × (p.node ≡ g.node)
partner_is rs None p e = absurd cc
partner_is rs (Some j) p e = by_field (slice_get rs j) refl e where
  by_field : (o : Option FieldNode) → slice_get rs j ≡ o → option_map (λ g. record { position = j; node = g.node }) o ≡ Some p → (Some j ≡ Some p.position) × (g : FieldNode) × (slice_get rs p.position ≡ Some g) × (p.node ≡ g.node)
  by_field None is e = absurd cc
  by_field (Some g) is e =
      let made : Partner = record { position = j; node = g.node } in
      let same : made ≡ p = cc in
      (ap (λ (x : Partner). Some x.position) same, g, ap (λ (x : Partner). slice_get rs x.position) (sym same) ∙ is, ap (λ (x : Partner). x.node) (sym same))

pub route_partner : (rs fs : List FieldNode) (ps : List (Option ℕ)) (i : ℕ) (route : Route) (p : Partner) → slice_get (routes_to rs fs ps) i ≡ Some route → route.partner ≡ Some p → IsPartnerOf rs ps i p
route_partner rs [] ps i route p at has = absurd cc
route_partner rs (f ∷ fs) [] i route p at has = absurd cc
route_partner rs (f ∷ fs) (o ∷ ps) zero route p at has =
    let same : record { node = f.node; partner = given o None (partner_at rs) } ≡ route = cc in
    let its = partner_is rs o p (ap (λ (x : Route). x.partner) same ∙ has) in
    record { at = ap Some its.0; field = its.1; is = its.2; node = its.3 }
route_partner rs (f ∷ fs) (o ∷ ps) (suc i) route p at has =
    let rest = route_partner rs fs ps i route p at has in
    record { at = rest.at; field = rest.field; is = rest.is; node = rest.node }

-- a route's pair is an entry of the fields
pub route_there : (P : Entry → Type 0) (whole : Whole) (apart : PartnersAreApart) (ws rs : List FieldNode) (distinct : HaveDistinctNames ws) (i : ℕ) (route : Route) (p : Partner)
    → slice_get (routes ws rs) i ≡ Some route → route.partner ≡ Some p → AllByRecursion P (record_entries whole (routes ws rs) rs)
    → P (due whole (Field (Some i) (Some p.position)) route.node p.node)
route_there P whole apart ws rs distinct i route p at has all =
    let its = route_partner rs ws (partners ws rs) i route p at has in
    let s = source_found p.position 0 (routes ws rs) i route p at has refl in
    let other = route_partner rs ws (partners ws rs) s.k s.route s.partner s.at s.has in
    let one : s.k ≡ i = apart ws rs s.k i p.position distinct (other.at ∙ ap (λ (n : ℕ). Some (Some n)) s.there) its.at in
    let same_route : s.route ≡ route = some_same s.route route (sym s.at ∙ ap (slice_get (routes ws rs)) one ∙ at) in
    let first : source p.position 0 (routes ws rs) ≡ Some (i, route.node) = s.same ∙ ap (λ (n : ℕ). Some (n, s.route.node)) (let none : 0 + s.k ≡ s.k = omega arith in none ∙ one) ∙ ap (λ (x : Route). Some (i, x.node)) same_route in
    let there = field_there P whole (routes ws rs) 0 p.position rs its.field its.is (all_front P (field_entries whole (routes ws rs) 0 rs) (dropped whole 0 (routes ws rs)) all) in
    let none : 0 + p.position ≡ p.position = omega arith in
    let here : P (field_entry whole (routes ws rs) p.position its.field) = subst (λ (n : ℕ). P (field_entry whole (routes ws rs) n its.field)) none there in
    subst (λ (n : ℕ). P (due whole (Field (Some i) (Some p.position)) route.node n)) (sym its.node)
    (subst (λ (o : Option (ℕ × ℕ)). P (given o (Ready (absent_line whole p.position its.field)) (λ s. due whole (Field (Some s.0) (Some p.position)) s.1 its.field.node))) first here)
  where
    some_same : (a b : Route) → Some a ≡ Some b → a ≡ b
    some_same a b e = cc
