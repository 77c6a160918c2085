use Rattle.avro_schema_names.proofs.namespace.Namespace.of_name.Goals as goal

pub invariant_of-result : goal.invariant_of-result
invariant_of-result c = record { valid = c.in_ok-shared_namespace.ensures.by_rule }

pub returns-clause-text : goal.returns-clause-text
returns-clause-text c = c.in_ok-shared_namespace.ensures.text
