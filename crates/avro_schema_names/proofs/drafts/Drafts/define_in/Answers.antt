use Rattle.std.proofs.Common.{◌∷◌, [], length, Some, string_bytes, sym, ap, subst, ◌∙◌}
use Rattle.std.specs.BTreeMap.{UpdatesBy}
use Rattle.std.specs.Ordering.{nat_cmp}
use Rattle.std.specs.Cmp.Lexicographic.{slice_cmp}
use Rattle.std.specs.String.{string_cmp}
use Rattle.std.proofs.lemmas.Option.{slice_get-get_or}
use Rattle.spec_avro.specs.FullNames.{namespace_of, unqualified}
use Rattle.avro_schema_names.specs.Draft.{draft_of, drafts_of}
use Rattle.spec_schema.specs.Head.{Named, defined_at, heads_of}
use Rattle.avro_schema_names.proofs.DraftLists.{drafts_of-append, length-drafts_of}
use Rattle.avro_schema_names.proofs.Index.{number-below}
use Rattle.avro_types.specs.Laws.NameParts.{name-undotted, parts-ruled}
use Rattle.avro_schema_names.proofs.NewIndex.{index-named}
use Rattle.avro_schema_names.proofs.drafts.Drafts.define_in.Goals as goal

pub invariant_of-self-2 : goal.invariant_of-self-2
invariant_of-self-2 c =
    let d = c.self.inside in
    let ns = drafts_of d.nodes.items in
    let name = c.args.name.now in
    let namespace = namespace_of name in
    let last = unqualified name in
    let parts = c.has_two_parts.ensures.parts in
    let none = name-undotted last parts.last_is in
    let there = rw (← c.self.view_is) at c.requires.numbered in
    let new = rw (← c.self.view_is) at c.requires.new in
    let old = c.index_mut-scope.result.now in
    let node = length d.nodes.items in
    index-named namespace last none (parts-ruled namespace last parts) ns (drafts_of c.add_named.new.values.items) (draft_of c.args.draft) (c.requires.named ∙ ap Named (sym c.has_two_parts.ensures.joined)) (ap (λ full. defined_at full (heads_of ns)) c.has_two_parts.ensures.joined ∙ new)
    (ap drafts_of c.in_ok-add_named.ensures.values ∙ drafts_of-append d.nodes.items (c.args.draft ∷ [])) d.numbers d.scopes.items c.self.invariant c.args.number node old c.add_named.new.scope there
    (slice_get-get_or d.scopes.items c.args.number old (number-below d.numbers d.scopes.items ns c.self.invariant c.args.number namespace there) ∙ ap Some (sym c.index_mut-scope.ensures.value))
    (sym (length-drafts_of d.nodes.items)) (subst (λ l. UpdatesBy string_cmp (λ k. slice_cmp nat_cmp l (string_bytes k)) old c.add_named.new.scope (Some node)) c.last.ensures c.in_ok-add_named.ensures.scope)
