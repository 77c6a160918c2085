use Rattle.std.proofs.Common.{◌∷◌, [], length, Some, string_bytes, refl, sym, ap, subst, ◌∙◌}
use Rattle.std.specs.BTreeMap.{UpdatesBy}
use Rattle.std.specs.Ordering.{nat_cmp}
use Rattle.std.specs.Cmp.Lexicographic.{slice_cmp}
use Rattle.std.specs.String.{string_cmp}
use Rattle.spec_avro.specs.FullNames.{namespace_of, unqualified}
use Rattle.avro_types.specs.Laws.NameParts.{name-undotted, parts-ruled}
use Rattle.avro_schema_names.specs.Draft.{draft_of, drafts_of}
use Rattle.spec_schema.specs.Head.{Named, heads_of}
use Rattle.avro_schema_names.proofs.DraftLists.{drafts_of-append, length-drafts_of}
use Rattle.avro_schema_names.proofs.NewIndex.{index-first, fresh-first}
use Rattle.avro_schema_names.proofs.drafts.Drafts.define_first.Goals as goal

pub invariant_of-self-2 : goal.invariant_of-self-2
invariant_of-self-2 c =
    let d = c.self.inside in
    let ns = drafts_of d.nodes.items in
    let name = c.args.name.now in
    let namespace = namespace_of name in
    let last = unqualified name in
    let parts = c.has_two_parts.ensures.parts in
    let none = name-undotted last parts.last_is in
    let new = rw (← c.self.view_is) at c.requires.first in
    let added = c.in_ok-add_first_named.ensures in
    let scope = added.scope in
    rw scope.2 (index-first namespace last none (parts-ruled namespace last parts) ns (drafts_of c.add_first_named.new.values.items) (draft_of c.args.draft) (c.requires.named ∙ ap Named (sym c.has_two_parts.ensures.joined))
    (fresh-first namespace last none (heads_of ns) new) (ap drafts_of added.values ∙ drafts_of-append d.nodes.items (c.args.draft ∷ [])) d.numbers d.scopes.items c.self.invariant new c.add_first_named.new.namespaces scope.1.0 scope.0 (length d.scopes.items) (length d.nodes.items)
    scope.1.1 (sym (length-drafts_of d.nodes.items)) refl
    (subst (λ l. UpdatesBy string_cmp (λ k. slice_cmp nat_cmp l (string_bytes k)) scope.1.0 scope.0 (Some (length d.nodes.items))) c.last-last.ensures scope.1.2)
    (subst (λ l. UpdatesBy string_cmp (λ k. slice_cmp nat_cmp l (string_bytes k)) d.numbers c.add_first_named.new.namespaces (Some (length d.scopes.items))) c.namespace-namespace.ensures added.namespace))
