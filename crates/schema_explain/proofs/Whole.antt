-- No pair that is reached is without a line.
use Rattle.std.proofs.Common.{◌≡◌, ℕ, Bool, true, false, List, [], ◌∷◌, slice_get, Option, Some, refl, sym, ap, subst, ◌∙◌, inl, inr}
use Rattle.std.specs.List.{AllByRecursion}
use Rattle.spec_avro.specs.Node.{Node, FieldNode, RecordNode}
use Rattle.spec_avro.specs.WellFormed.{HaveDistinctNames, IsWellFormed}
use Rattle.spec_avro.specs.Partners.{PartnersAreApart}
use Rattle.spec_avro.specs.declared.place.Destination.TheVariants.{IntoMember}
use Rattle.spec_avro.specs.Resolution.{field_lists}
use Rattle.spec_avro.specs.Safety.{LeadsTo, Pair, Reached, root, step, to_branch, to_field, to_items, to_member, to_values}
use Rattle.schema_explain.specs.Arrivals.{arrival, fate_in, straight}
use Rattle.schema_explain.specs.Explanation.{has_parts, roots}
use Rattle.schema_explain.specs.Lines.{EachPairHasALine, IsLineOf, SomeLine}
use Rattle.schema_explain.specs.Pairs.{is_among}
use Rattle.schema_explain.specs.Parts.{parts_of}
use Rattle.schema_explain.specs.declared.arrivals.Arrival.{Arrival}
use Rattle.schema_explain.specs.declared.entries.Entry.TheVariants.{Due}
use Rattle.schema_explain.specs.declared.entries.Whole.{Whole}
use Rattle.schema_explain.specs.declared.line.Fate.TheVariants.{Parts}
use Rattle.schema_explain.specs.declared.line.Line.{Line}
use Rattle.schema_explain.proofs.Arriving.{arrival_at_place, arrival_of_union, arrival_straight, branch_straight}
use Rattle.schema_explain.proofs.Complete.{Accounted, Complete, IsLineOfParts, Shown, ShownAs, ShownEntry, complete, parts_alone}
use Rattle.schema_explain.proofs.Finding.{branch_there, fields_are_parts, fields_have_parts, items_are_parts, items_have_parts, route_there, values_are_parts, values_have_parts}

distinct_names : (W : List Node) (formed : IsWellFormed W) (w : ℕ) (R : Option Node) (ws rs : List FieldNode) → field_lists (slice_get W w) R ≡ Some (ws, rs) → HaveDistinctNames ws
distinct_names W formed w R ws rs lists = by_node (slice_get W w) refl R lists where
  by_node : (o : Option Node) → slice_get W w ≡ o → (R : Option Node) → field_lists o R ≡ Some (ws, rs) → HaveDistinctNames ws
  by_node (Some (RecordNode n fs)) at (Some (RecordNode m gs)) e =
      let both : (fs, gs) ≡ (ws, rs) = cc in subst HaveDistinctNames (ap (λ (p : List FieldNode × List FieldNode). p.0) both) (formed.each w (RecordNode n fs) at).1
  by_node o at R e = absurd cc

pub map_lines : (P Q : Line → Type 0) (lines : List Line) → ((line : Line) → P line → Q line) → SomeLine P lines → SomeLine Q lines
map_lines P Q [] f s = s
map_lines P Q (line ∷ lines) f (inl p) = inl (f line p)
map_lines P Q (line ∷ lines) f (inr s) = inr (map_lines P Q lines f s)

module _ (W R : List Node) (formed : IsWellFormed W) (reader_formed : IsWellFormed R) (apart : PartnersAreApart) (lines : List Line) (c : Complete W R (Due roots ∷ []) [] lines) where
  accounted : (p : Pair) → is_among p c.final ≡ true → Accounted W R lines c.final p
  accounted p a = elim (c.accounted p a) [ inl none ↦ absurd (let no : ⊥ = cc in no) | inr b ↦ b ]

  -- a pair with parts is explained
  pub explained_at : (p : Pair) (a : Arrival) → arrival W R p.0 p.1 ≡ a → has_parts a.fate ≡ true → Shown W R lines c.final p → Accounted W R lines c.final (p.0, a.node)
  explained_at p a is whole h =
      let there = subst (λ (b : Bool). ShownAs W R b lines c.final p) (ap (λ (x : Arrival). has_parts x.fate) is ∙ whole) h in
      accounted (p.0, a.node) (ap (λ (x : Arrival). is_among (p.0, x.node) c.final) (sym is) ∙ there)

  -- what goes into a branch is shown where the union is
  same_shown : (p q : Pair) → p.0 ≡ q.0 → (arrival W R p.0 p.1).node ≡ (arrival W R q.0 q.1).node → (arrival W R p.0 p.1).fate ≡ (arrival W R q.0 q.1).fate → Shown W R lines c.final p → Shown W R lines c.final q
  same_shown p q w node fate h = by_parts (has_parts (arrival W R p.0 p.1).fate) (has_parts (arrival W R q.0 q.1).fate) (ap has_parts fate) h where
    by_parts : (b d : Bool) → b ≡ d → ShownAs W R b lines c.final p → ShownAs W R d lines c.final q
    by_parts true true e h = ap (λ (n : ℕ). is_among (n, (arrival W R q.0 q.1).node) c.final) (sym w) ∙ ap (λ (n : ℕ). is_among (p.0, n) c.final) (sym node) ∙ h
    by_parts false false e h = map_lines (IsLineOf W R p) (IsLineOf W R q) lines (λ line l. record { writer = l.writer ∙ ap Some w; reader = l.reader ∙ ap Some node; fate = l.fate ∙ fate }) h
    by_parts true false e h = absurd cc
    by_parts false true e h = absurd cc

  onward : (p q : Pair) → LeadsTo W R p q → Shown W R lines c.final p → Shown W R lines c.final q
  onward p q (to_member {w = w} {r = r} {member = m} i members at is) h =
      let a = explained_at (w, r) (straight r Parts) (arrival_of_union W R w r members at) refl h in
      let whole : Whole = record { depth = a.depth; writer = w; reader = r } in
      branch_there (ShownEntry W R lines c.final) whole 0 i members m is (subst (λ (o : Option Node). AllByRecursion (ShownEntry W R lines c.final) (parts_of whole o (slice_get R r))) at a.parts)
  onward p q (to_branch {w = w} {r = r} {node = node} position u is) h =
      let before = arrival_at_place W R w r (IntoMember position node) u is in
      let after = arrival_straight W R w node (record { no_union = u; straight = branch_straight W R reader_formed w r position node is }) in
      same_shown (w, r) (w, node) refl (ap (λ (x : Arrival). x.node) before ∙ sym (ap (λ (x : Arrival). x.node) after)) (ap (λ (x : Arrival). x.fate) before ∙ sym (ap (λ (x : Arrival). x.fate) after)) h
  onward p q (to_items {w = w} {r = r} s both) h =
      let a = explained_at (w, r) (straight r (fate_in (slice_get W w) (slice_get R r))) (arrival_straight W R w r s) (items_have_parts (slice_get W w) (slice_get R r) q both) h in
      let whole : Whole = record { depth = a.depth; writer = w; reader = r } in
      (subst (AllByRecursion (ShownEntry W R lines c.final)) (items_are_parts whole (slice_get W w) (slice_get R r) q both) a.parts).0
  onward p q (to_values {w = w} {r = r} s both) h =
      let a = explained_at (w, r) (straight r (fate_in (slice_get W w) (slice_get R r))) (arrival_straight W R w r s) (values_have_parts (slice_get W w) (slice_get R r) q both) h in
      let whole : Whole = record { depth = a.depth; writer = w; reader = r } in
      (subst (AllByRecursion (ShownEntry W R lines c.final)) (values_are_parts whole (slice_get W w) (slice_get R r) q both) a.parts).0
  onward p q (to_field {w = w} {r = r} i ws rs route partner s lists at has) h =
      let a = explained_at (w, r) (straight r (fate_in (slice_get W w) (slice_get R r))) (arrival_straight W R w r s) (fields_have_parts (slice_get W w) (slice_get R r) ws rs lists) h in
      let whole : Whole = record { depth = a.depth; writer = w; reader = r } in
      route_there (ShownEntry W R lines c.final) whole apart ws rs (distinct_names W formed w (slice_get R r) ws rs lists) i route partner at has
      (subst (AllByRecursion (ShownEntry W R lines c.final)) (fields_are_parts whole (slice_get W w) (slice_get R r) ws rs lists) a.parts)

  pub reached_shown : (p : Pair) → Reached W R p → Shown W R lines c.final p
  reached_shown p root = c.shown.0
  reached_shown p (step o q r leads) = onward o p leads (reached_shown o r)

  -- what is shown has a line
  shown_line : (p : Pair) (b : Bool) → has_parts (arrival W R p.0 p.1).fate ≡ b → ShownAs W R b lines c.final p → SomeLine (IsLineOf W R p) lines
  shown_line p false is h = h
  shown_line p true is h =
      let fate = parts_alone (arrival W R p.0 p.1).fate is in
      map_lines (IsLineOfParts (p.0, (arrival W R p.0 p.1).node)) (IsLineOf W R p) lines (λ line l. record { writer = l.writer; reader = l.reader; fate = l.fate ∙ sym fate }) (accounted (p.0, (arrival W R p.0 p.1).node) h).line

  pub reached_line : (p : Pair) → Reached W R p → SomeLine (IsLineOf W R p) lines
  reached_line p reach = shown_line p (has_parts (arrival W R p.0 p.1).fate) refl (reached_shown p reach)

pub each_has_a_line : (W R : List Node) → IsWellFormed W → IsWellFormed R → PartnersAreApart → EachPairHasALine W R
each_has_a_line W R formed reader_formed apart lines p is reach = reached_line W R formed reader_formed apart lines (complete W R (Due roots ∷ []) [] lines is) p reach
