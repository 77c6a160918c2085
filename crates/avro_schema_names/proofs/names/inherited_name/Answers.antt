use Rattle.std.proofs.Common.{sym, ◌∙◌}
use Rattle.std.specs.Arc.{arc_str_bytes}
use Rattle.spec_schema.specs.Head.{heads_of}
use Rattle.avro_types.specs.Laws.Booleans.{is_nowhere}
use Rattle.avro_types.specs.Laws.Dots.{namespace-inside}
use Rattle.avro_schema_names.proofs.Namespaces.{namespaces-numbered}
use Rattle.avro_schema_names.proofs.NameSteps.{new-bad_last, new-used, new-fine}
use Rattle.avro_schema_names.proofs.names.inherited_name.Goals as goal

pub returns-then-not-is_last_part-clause-name : goal.returns-then-not-is_last_part-clause-name
returns-then-not-is_last_part-clause-name c = λ _. new-bad_last (arc_str_bytes c.args.enclosing.now.text) c.args.last.now c.requires.undotted _ (sym c.is_last_part.ensures ∙ c.if-not-is_last_part.true)

pub returns-then-is_some-clause-name : goal.returns-then-is_some-clause-name
returns-then-is_some-clause-name c =
    λ _. new-used (arc_str_bytes c.args.enclosing.now.text) c.args.last.now c.requires.undotted _ c.args.enclosing.now.valid (sym c.is_last_part.ensures ∙ c.if-not-is_last_part.false)
    (rw (← c.defined_in.ensures) (sym c.is_some.ensures ∙ c.if-is_some.true))

pub returns-clause-name : goal.returns-clause-name
returns-clause-name c =
    rw (c.new-name.ensures, c.in_ok-namespace.ensures.cases, c.in_ok-from_str.ensures.ok)
    (new-fine (arc_str_bytes c.args.enclosing.now.text) c.args.last.now c.requires.undotted _ c.args.enclosing.now.valid (sym c.is_last_part.ensures ∙ c.if-not-is_last_part.false)
    (rw (← c.defined_in.ensures) (sym c.is_some.ensures ∙ c.if-is_some.false)))

pub returns-clause-numbered : goal.returns-clause-numbered
returns-clause-numbered c =
    let enclosing = c.args.enclosing.now in
    rw (c.new-name.ensures, c.in_ok-namespace.ensures.cases, c.in_ok-from_str.ensures.ok, namespace-inside (arc_str_bytes enclosing.text) c.args.last.now c.requires.undotted)
    (sym (namespaces-numbered (heads_of c.args.drafts.now) enclosing.number (arc_str_bytes enclosing.text) c.requires.known))

pub returns-clause-new : goal.returns-clause-new
returns-clause-new c =
    rw (c.new-name.ensures, c.in_ok-namespace.ensures.cases, c.in_ok-from_str.ensures.ok) (is_nowhere _ (rw (← c.defined_in.ensures) (sym c.is_some.ensures ∙ c.if-is_some.false)))
