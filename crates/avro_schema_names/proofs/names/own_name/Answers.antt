use Rattle.std.proofs.Common.{sym, ◌∙◌}
use Rattle.avro_types.specs.Laws.Booleans.{is_nowhere}
use Rattle.avro_types.specs.Laws.Dots.{namespace-inside}
use Rattle.avro_schema_names.proofs.NameSteps.{new-bad_space, new-bad_last, new-used, new-fine}
use Rattle.avro_schema_names.proofs.names.own_name.Goals as goal
use Rattle.avro_schema_names.proofs.names.own_name.Goals.{then-not-is_namespace-via-then-not-is_namespace, then-not-is_namespace-via-else-not-is_namespace+then-not-is_last_part}

pub returns-then-not-is_namespace-clause-name : goal.returns-then-not-is_namespace-clause-name
returns-then-not-is_namespace-clause-name c =
    elim c.then-not-is_namespace.branch [
      | then-not-is_namespace-via-then-not-is_namespace w ↦ λ _. new-bad_space c.args.namespace.now c.args.last.now c.requires.undotted _ (sym c.is_namespace.ensures ∙ w.if-not-is_namespace.true)
      | then-not-is_namespace-via-else-not-is_namespace+then-not-is_last_part w ↦ λ _. new-bad_last c.args.namespace.now c.args.last.now c.requires.undotted _ (sym w.is_last_part.ensures ∙ w.if-not-is_last_part.true)
    ]

pub returns-then-is_some-clause-name : goal.returns-then-is_some-clause-name
returns-then-is_some-clause-name c =
    λ _. new-used c.args.namespace.now c.args.last.now c.requires.undotted _ (sym c.is_namespace.ensures ∙ c.if-not-is_namespace.false) (sym c.is_last_part.ensures ∙ c.if-not-is_last_part.false)
    (rw (← c.defined_by.ensures) (sym c.is_some.ensures ∙ c.if-is_some.true))

pub returns-clause-name : goal.returns-clause-name
returns-clause-name c =
    rw (c.new-name.ensures, c.in_ok-namespace.ensures.ok, c.in_ok-from_str.ensures.ok)
    (new-fine c.args.namespace.now c.args.last.now c.requires.undotted _ (sym c.is_namespace.ensures ∙ c.if-not-is_namespace.false) (sym c.is_last_part.ensures ∙ c.if-not-is_last_part.false)
    (rw (← c.defined_by.ensures) (sym c.is_some.ensures ∙ c.if-is_some.false)))

pub returns-clause-numbered : goal.returns-clause-numbered
returns-clause-numbered c =
    rw (c.new-name.ensures, c.in_ok-namespace.ensures.ok, c.in_ok-from_str.ensures.ok, namespace-inside c.args.namespace.now c.args.last.now c.requires.undotted) c.number_of-number.ensures

pub returns-clause-new : goal.returns-clause-new
returns-clause-new c =
    rw (c.new-name.ensures, c.in_ok-namespace.ensures.ok, c.in_ok-from_str.ensures.ok) (is_nowhere _ (rw (← c.defined_by.ensures) (sym c.is_some.ensures ∙ c.if-is_some.false)))
