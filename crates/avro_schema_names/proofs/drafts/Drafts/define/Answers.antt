use Rattle.std.proofs.Common.{◌≡◌, length, rules, sym, ap, ◌∙◌}
use Rattle.avro_types.specs.Laws.Placed.{place-some}
use Rattle.avro_schema_names.specs.Draft.{draft_of}
use Rattle.spec_schema.specs.Head.{heads_of}
use Rattle.avro_schema_names.specs.Index.{namespaces_of}
use Rattle.avro_schema_names.proofs.Index.{heads-behind}
use Rattle.avro_schema_names.proofs.NewIndex.{first-number}
use Rattle.avro_schema_names.proofs.Namespaces.{namespaces-keep}
use Rattle.avro_schema_names.proofs.drafts.Drafts.define.Goals as goal

pub define_in-requires-clause-numbered : goal.define_in-requires-clause-numbered
define_in-requires-clause-numbered c =
    place-some _ (namespaces_of (heads_of c.args.self.now)) c.in-Some.number (sym c.requires.numbered ∙ c.in-Some.is)

pub returns-in_ok-define_in-in-Some-clause-number : goal.returns-in_ok-define_in-in-Some-clause-number
returns-in_ok-define_in-in-Some-clause-number c =
    let d = c.args.self.now in
    let there = place-some _ (namespaces_of (heads_of d)) c.in-Some.number (sym c.requires.numbered ∙ c.in-Some.is) in
    rw (c.in_ok-define_in-in-Some.ensures.nodes, heads-behind d (draft_of c.args.draft)) (namespaces-keep (heads_of d) _ c.in-Some.number _ there)

pub returns-in_ok-define_first-in-None-clause-number : goal.returns-in_ok-define_first-in-None-clause-number
returns-in_ok-define_first-in-None-clause-number c =
    let d = c.args.self.now in
    let own = c.self.inside in
    let n : c.len-number.result ≡ length own.scopes.items = search rules in
    let count : length own.scopes.items ≡ length (namespaces_of (heads_of d)) =
    c.self.invariant.each_has_one ∙ ap (λ ds. length (namespaces_of (heads_of ds))) c.self.view_is in
    rw (c.in_ok-define_first-in-None.ensures.nodes, heads-behind d (draft_of c.args.draft), c.requires.named, n, count)
    (first-number (heads_of d) c.args.name.now (sym c.requires.numbered ∙ c.in-None.is))
