use Rattle.std.proofs.Common.{sym, ◌∙◌}
use Rattle.std.specs.Arc.{arc_str_bytes}
use Rattle.avro_types.specs.Laws.Dots.{back-undotted, none-undotted, split-parts}
use Rattle.avro_schema_names.proofs.NameSteps.{dotted-empty, dotted-full, dotted-some, undotted-full}
use Rattle.avro_schema_names.proofs.names.defined_node.Goals as goal

pub defined_by-requires : goal.defined_by-requires
defined_by-requires c = record { undotted = back-undotted c.args.text.now c.in-Some.namespace.now c.in-Some.last.now c.in-Some.ensures.cases }

pub defined_in-requires-clause-undotted : goal.defined_in-requires-clause-undotted
defined_in-requires-clause-undotted c = none-undotted c.args.text.now c.in-None.ensures.cases

pub returns-then-is_empty : goal.returns-then-is_empty
returns-then-is_empty c =
    let parts = split-parts c.args.text.now c.in-Some.namespace.now c.in-Some.last.now c.in-Some.ensures.cases in
    let begins = dotted-empty c.args.text.now c.in-Some.namespace.now c.in-Some.last.now parts (sym c.is_empty.ensures ∙ c.if-is_empty.true) in
    rw (dotted-full (arc_str_bytes c.args.enclosing.now.text) c.args.text.now c.in-Some.namespace.now c.in-Some.last.now parts, begins) (sym (c.names_are_apart.ensures.begins_none c.in-Some.last.now))

pub returns-else-is_empty : goal.returns-else-is_empty
returns-else-is_empty c =
    let parts = split-parts c.args.text.now c.in-Some.namespace.now c.in-Some.last.now c.in-Some.ensures.cases in
    let split = dotted-some c.args.text.now c.in-Some.namespace.now c.in-Some.last.now parts (sym c.is_empty.ensures ∙ c.if-is_empty.false) in
    rw (dotted-full (arc_str_bytes c.args.enclosing.now.text) c.args.text.now c.in-Some.namespace.now c.in-Some.last.now parts, split) c.defined_by.ensures

pub returns-in-None : goal.returns-in-None
returns-in-None c =
    let none = none-undotted c.args.text.now c.in-None.ensures.cases in
    rw (undotted-full (arc_str_bytes c.args.enclosing.now.text) c.args.text.now none) c.defined_in.ensures
