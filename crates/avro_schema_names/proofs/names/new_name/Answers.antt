use Rattle.std.proofs.Common.{sym, ap, ◌∙◌}
use Rattle.std.proofs.lemmas.Result.{err_from_is_err_and}
use Rattle.std.specs.Arc.{arc_str_bytes}
use Rattle.serde_json.specs.View.{view}
use Rattle.avro_schema_names.specs.Draft.{data_at}
use Rattle.avro_types.specs.Laws.Dots.{back-undotted, none-undotted, split-parts}
use Rattle.avro_schema_names.proofs.NameSteps.{begins-bad, dotted-empty, dotted-some, name-dotted, name-inherited, name-no_space, name-own}
use Rattle.avro_schema_names.proofs.names.new_name.Goals as goal

pub returns-then-is_empty-clause-name : goal.returns-then-is_empty-clause-name
returns-then-is_empty-clause-name c =
    let s = c.in_ok-name.name.now in
    let parts = split-parts s c.in-Some.own.now c.in-Some.last.now c.in-Some.ensures.cases in
    let begins = dotted-empty s c.in-Some.own.now c.in-Some.last.now parts (sym c.is_empty.ensures ∙ c.if-is_empty.true) in
    λ _. name-dotted (data_at c.args.name) (data_at c.args.namespace) (arc_str_bytes c.args.enclosing.now.text) _ s c.in_ok-name.ensures.told c.in-Some.own.now c.in-Some.last.now parts ∙ rw begins (begins-bad c.in-Some.last.now _)

pub own_name-requires : goal.own_name-requires
own_name-requires c = record { undotted = back-undotted c.in_ok-name.name.now c.in-Some.own.now c.in-Some.last.now c.in-Some.ensures.cases }

pub returns-in_err-text_of-in-Some-namespace-clause-name : goal.returns-in_err-text_of-in-Some-namespace-clause-name
returns-in_err-text_of-in-Some-namespace-clause-name c =
    let s = c.in_ok-name.name.now in
    let p = err_from_is_err_and c.from_residual-in_err-text_of-in-Some-namespace.result c.from_residual-in_err-text_of-in-Some-namespace.ensures.1 in
    rw (p.1, p.2)
    (λ known. name-no_space (data_at c.args.name) (data_at c.args.namespace) (arc_str_bytes c.args.enclosing.now.text) _ s c.in_ok-name.ensures.told _ (none-undotted s c.in-None.ensures.cases) (view c.in-Some-namespace.field-0.now) (ap data_at c.in-Some-namespace.is) (c.in_err-text_of-in-Some-namespace.ensures.told known))

pub own_name-requires-in-Some-namespace : goal.own_name-requires-in-Some-namespace
own_name-requires-in-Some-namespace c = record { undotted = none-undotted c.in_ok-name.name.now c.in-None.ensures.cases }

pub inherited_name-requires-clause-undotted : goal.inherited_name-requires-clause-undotted
inherited_name-requires-clause-undotted c = none-undotted c.in_ok-name.name.now c.in-None.ensures.cases

pub returns-else-is_empty-clause-name : goal.returns-else-is_empty-clause-name
returns-else-is_empty-clause-name c =
    let s = c.in_ok-name.name.now in
    let parts = split-parts s c.in-Some.own.now c.in-Some.last.now c.in-Some.ensures.cases in
    let split = dotted-some s c.in-Some.own.now c.in-Some.last.now parts (sym c.is_empty.ensures ∙ c.if-is_empty.false) in
    rw (name-dotted (data_at c.args.name) (data_at c.args.namespace) (arc_str_bytes c.args.enclosing.now.text) _ s c.in_ok-name.ensures.told c.in-Some.own.now c.in-Some.last.now parts, split) c.own_name.ensures.name

pub returns-in_ok-text_of-in-Some-namespace-clause-name : goal.returns-in_ok-text_of-in-Some-namespace-clause-name
returns-in_ok-text_of-in-Some-namespace-clause-name c =
    let s = c.in_ok-name.name.now in
    rw (name-own (data_at c.args.name) (data_at c.args.namespace) (arc_str_bytes c.args.enclosing.now.text) _ s c.in_ok-name.ensures.told c.in_ok-text_of-in-Some-namespace.field-0.now (none-undotted s c.in-None.ensures.cases) (view c.in-Some-namespace.field-0.now) (ap data_at c.in-Some-namespace.is) c.in_ok-text_of-in-Some-namespace.ensures.told)
    c.own_name-in-Some-namespace.ensures.name

pub returns-in-None-namespace-clause-name : goal.returns-in-None-namespace-clause-name
returns-in-None-namespace-clause-name c =
    let s = c.in_ok-name.name.now in
    rw (name-inherited (data_at c.args.name) (data_at c.args.namespace) (arc_str_bytes c.args.enclosing.now.text) _ s c.in_ok-name.ensures.told (none-undotted s c.in-None.ensures.cases) (ap data_at c.in-None-namespace.is)) c.inherited_name.ensures.name
