use Rattle.avro_schema.proofs.SchemaText.{same_nodes}
use Rattle.avro_schema.proofs.schema.Schema.same_text_has_same_nodes.Goals as goal

pub returns : goal.returns
returns c = rw (← c.self.view_is, ← c.other.view_is) (same_nodes _ _ _ _ (rw (← c.self.view_is, ← c.other.view_is) at c.requires) c.self.invariant c.other.invariant)
