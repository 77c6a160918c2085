-- The nodes that values of the code are. This project's own.
use Rattle.std.specs.Prelude.{List, map, option_map, string_bytes}
use Rattle.avro_types.specs.Datum.{datum_of}
use Rattle.avro_types.specs.declared.kind.Kind.{Kind}
use Rattle.avro_types.specs.declared.kind.Kind.TheVariants as kinds
use Rattle.avro_types.specs.declared.kind.Field.{Field}
use Rattle.spec_avro.specs.Node.{FieldNode, Node, NullNode, BooleanNode, IntNode, LongNode, BytesNode, TextNode, FixedNode, EnumNode, ArrayNode, MapNode, UnionNode, RecordNode, names_of}

abbrev pub field_of : Field → FieldNode
field_of f =
    record {
      name = string_bytes f.name;
      aliases = map string_bytes f.aliases.items;
      node = f.node;
      default = option_map datum_of f.default;
    }

abbrev pub fields_of : List Field → List FieldNode
fields_of fs = map field_of fs

abbrev pub node_of : Kind → Node
node_of kinds.Null = NullNode
node_of kinds.Boolean = BooleanNode
node_of kinds.Int = IntNode
node_of kinds.Long = LongNode
node_of kinds.Bytes = BytesNode
node_of kinds.Text = TextNode
node_of (kinds.Fixed name aliases size) = FixedNode (names_of name aliases) size
node_of (kinds.Enum name aliases symbols default) = EnumNode (names_of name aliases) symbols default
node_of (kinds.Array item) = ArrayNode item
node_of (kinds.Map value) = MapNode value
node_of (kinds.Union members) = UnionNode members.items
node_of (kinds.Record name aliases fields) = RecordNode (names_of name aliases) (fields_of fields.items)

abbrev pub nodes_of : List Kind → List Node
nodes_of ks = map node_of ks
