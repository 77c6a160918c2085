use Rattle.std.proofs.Common.{◌≡◌, length, rules, sym, ap, ◌∙◌}
use Rattle.std.specs.Vec.{vec_len}
use Rattle.spec_avro.specs.FullNames.{inside}
use Rattle.avro_types.specs.Laws.Dots.{namespace-inside}
use Rattle.avro_types.specs.Laws.Placed.{none-used, place-some}
use Rattle.spec_avro.specs.Symbols.{is_used}
use Rattle.avro_schema_names.specs.Draft.{drafts_of}
use Rattle.spec_schema.specs.Head.{heads_of}
use Rattle.avro_schema_names.specs.Index.{namespaces_of}
use Rattle.avro_schema_names.proofs.Index.{found-under, number-below}
use Rattle.avro_schema_names.proofs.Namespaces.{spaceless}
use Rattle.avro_schema_names.proofs.drafts.Drafts.defined_by.Goals as goal

pub index-requires : goal.index-requires
index-requires c =
    let d = c.self.inside in
    let n : vec_len d.scopes ≡ length d.scopes.items = search rules in
    let at = rw (← c.self.view_is) at c.number_of.ensures in
    let there = place-some c.args.namespace.now (namespaces_of (heads_of (drafts_of d.nodes.items))) c.in-Some.number (sym at ∙ c.in-Some.is) in
    rw n (number-below d.numbers d.scopes.items (drafts_of d.nodes.items) c.self.invariant c.in-Some.number c.args.namespace.now there)

pub returns-in-Some : goal.returns-in-Some
returns-in-Some c =
    let d = c.self.inside in
    let at = rw (← c.self.view_is) at c.number_of.ensures in
    let there = place-some c.args.namespace.now (namespaces_of (heads_of (drafts_of d.nodes.items))) c.in-Some.number (sym at ∙ c.in-Some.is) in
    rw (← c.self.view_is)
    (c.copied.ensures ∙ c.get.ensures.value
    ∙ found-under d.numbers d.scopes.items (drafts_of d.nodes.items) c.self.invariant c.in-Some.number c.args.namespace.now c.args.last.now c.index.result.now there c.index.ensures c.requires.undotted)

pub returns-in-None : goal.returns-in-None
returns-in-None c =
    let d = c.args.self.now in
    let none = none-used c.args.namespace.now (namespaces_of (heads_of d)) (sym c.number_of.ensures ∙ c.in-None.is) in
    sym (spaceless (inside c.args.namespace.now c.args.last.now) (heads_of d) (ap (λ s. is_used s (namespaces_of (heads_of d))) (namespace-inside c.args.namespace.now c.args.last.now c.requires.undotted) ∙ none))
