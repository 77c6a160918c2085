use Rattle.avro_schema.proofs.SchemaText.{of_own_text, reads_as_schema}
use Rattle.avro_schema.proofs.schema.Schema.is_declared.Goals as goal

pub returns-clause-compact : goal.returns-clause-compact
returns-clause-compact c = rw (← c.self.view_is) (c.self.invariant.value, c.self.invariant.is_compact)

pub returns-clause-nodes : goal.returns-clause-nodes
returns-clause-nodes c = let h = reads_as_schema _ _ (of_own_text _ _ c.self.invariant) in rw (← c.self.view_is) h
