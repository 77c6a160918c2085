-- Arrays and maps (Avro 1.11, "Arrays" and "Maps").
use Rattle.std.specs.Prelude.{ℕ}
use Rattle.spec_avro.specs.Node.{Node, ArrayNode, MapNode}
use Rattle.avro_schema.specs.declared.holder.Holder.{Holder}
use Rattle.avro_schema.specs.declared.holder.Holder.TheVariants as holders

-- the node that holds values of the type of another
abbrev pub holder_node : Holder → ℕ → Node
holder_node holders.Array inner = ArrayNode inner
holder_node holders.Map inner = MapNode inner
