-- The data that the defaults of fields are (Avro 1.11, "Complex Types", the table of default values by type).
use Rattle.std.specs.Prelude.{ℕ, ◌^◌, ◌==◌, List, [], ◌∷◌, length, Bool, ℤ, pos, negsuc, nat_lt, if◌then◌else◌, Option, Some, None, option_map, option_and_then, slice_get, Result}
use Rattle.std.specs.List.{list_all}
use Rattle.std.specs.Option.{ok_or}
use Rattle.std.specs.Ordering.{nat_cmp, match_ordering}
use Rattle.std.specs.Cmp.Lexicographic.{slice_cmp}
use Rattle.std.specs.Str.{chars}
use Rattle.serde_json.specs.Data.{Num, Data, null, boolean, number, string, array, object, Items, no_items, item, Members, no_members, member}
use Rattle.serde_json.specs.Find.{as_i64}
use Rattle.spec_schema.specs.declared.schema_error.SchemaError.{SchemaError}
use Rattle.spec_schema.specs.declared.schema_error.SchemaError.TheVariants.{BadDefault}
use Rattle.spec_avro.specs.Datum as datum
use Rattle.spec_avro.specs.Datum.{Datum, NullDatum, BooleanDatum, IntDatum, LongDatum, BytesDatum, TextDatum, FixedDatum, EnumDatum, ArrayDatum, MapDatum, UnionDatum, RecordDatum, no_more, more, Pairs, no_pairs, pair}
use Rattle.spec_schema.specs.Draft.{Draft, Whole, RecordDraft, DraftField}
use Rattle.spec_avro.specs.Node.{Node, FieldNode, NullNode, BooleanNode, IntNode, LongNode, BytesNode, TextNode, FixedNode, EnumNode, ArrayNode, MapNode, UnionNode, RecordNode}
use Rattle.spec_avro.specs.Symbols.{place_of}

-- the datum that a value is by a node that is no union
abbrev pub Reading : Type 0
Reading = Draft → Option Datum

-- "default values for union fields correspond to the first schema in the union"
abbrev pub by_first : List Draft → Reading → Option Draft → Option Datum
by_first drafts reading (Some (Whole (UnionNode []))) = None
by_first drafts reading (Some (Whole (UnionNode (m ∷ ms)))) =
    option_map (UnionDatum 0) (option_and_then reading (slice_get drafts m))
by_first drafts reading (Some d) = reading d
by_first drafts reading None = None

-- by the node at an index
abbrev pub at_node : List Draft → ℕ → Reading → Option Datum
at_node drafts n reading = by_first drafts reading (slice_get drafts n)

-- ---- values without parts

-- a signed number of `bits` bits beside its sign
abbrev pub has_bits : ℕ → ℤ → Bool
has_bits bits (pos n) = nat_lt n (2 ^ bits)
has_bits bits (negsuc n) = nat_lt n (2 ^ bits)

abbrev pub int_value : Option ℤ → Option Datum
int_value None = None
int_value (Some z) = if has_bits 31 z then Some (IntDatum z) else None

abbrev pub long_value : Option ℤ → Option Datum
long_value None = None
long_value (Some z) = if has_bits 63 z then Some (LongDatum z) else None

abbrev pub number_value : Num → Reading
number_value n (Whole IntNode) = int_value (as_i64 n)
number_value n (Whole LongNode) = long_value (as_i64 n)
number_value n _ = None

-- code points 0 to 255 are the bytes
abbrev pub bytes_in : List ℕ → Option (List ℕ)
bytes_in s = if list_all (λ c. nat_lt c 256) (chars s) then Some (chars s) else None

abbrev pub fixed_value : ℕ → Option (List ℕ) → Option Datum
fixed_value size None = None
fixed_value size (Some bytes) = if length bytes == size then Some (FixedDatum bytes) else None

abbrev pub text_value : List ℕ → Reading
text_value s (Whole BytesNode) = option_map BytesDatum (bytes_in s)
text_value s (Whole TextNode) = Some (TextDatum s)
text_value s (Whole (FixedNode names size)) = fixed_value size (bytes_in s)
text_value s (Whole (EnumNode names symbols default)) = option_map EnumDatum (place_of s symbols)
text_value s _ = None

-- ---- values with parts

abbrev pub array_value : (ℕ → Option datum.Data) → Reading
array_value items (Whole (ArrayNode n)) = option_map ArrayDatum (items n)
array_value items _ = None

-- each field by its name
abbrev pub fields_value : List Draft → (List ℕ → Option Reading) → List DraftField → Option datum.Data
fields_value drafts value [] = Some no_more
fields_value drafts value (f ∷ fs) =
    option_and_then (λ d. option_map (more d) (fields_value drafts value fs)) (option_and_then (at_node drafts f.node)
    (value f.name))

abbrev pub object_value : List Draft → (List ℕ → Option Reading) → (ℕ → Option Pairs) → Reading
object_value drafts value pairs (Whole (MapNode n)) = option_map MapDatum (pairs n)
object_value drafts value pairs (RecordDraft names fs) = option_map RecordDatum (fields_value drafts value fs)
object_value drafts value pairs _ = None

-- by a kind that holds no others
abbrev pub leaf_value : Data → Reading
leaf_value null (Whole NullNode) = Some NullDatum
leaf_value (boolean b) (Whole BooleanNode) = Some (BooleanDatum b)
leaf_value (number n) d = number_value n d
leaf_value (string s) d = text_value s d
leaf_value _ d = None

unfoldable mutual
  pub value_of : Data → List Draft → Reading
  value_of (array ds) drafts d = array_value (items_value ds drafts) d
  value_of (object ms) drafts d = object_value drafts (member_value ms drafts) (pairs_value ms drafts) d
  value_of leaf drafts d = leaf_value leaf d

  pub items_value : Items → List Draft → ℕ → Option datum.Data
  items_value no_items drafts n = Some no_more
  items_value (item d ds) drafts n =
      option_and_then (λ e. option_map (more e) (items_value ds drafts n)) (at_node drafts n (value_of d drafts))

  -- in the order of the keys
  pub pairs_value : Members → List Draft → ℕ → Option Pairs
  pairs_value no_members drafts n = Some no_pairs
  pairs_value (member k d ms) drafts n =
      option_and_then (λ e. option_map (pair k e) (pairs_value ms drafts n)) (at_node drafts n (value_of d drafts))

  -- what is at a key
  pub member_value : Members → List Draft → List ℕ → Option Reading
  member_value no_members drafts k = None
  member_value (member l d ms) drafts k =
      match_ordering (slice_cmp nat_cmp k l) (member_value ms drafts k) (Some (value_of d drafts)) (member_value ms
      drafts k)

-- the datum that a value is by a node
abbrev pub default_of : List Draft → ℕ → Data → Option Datum
default_of drafts n d = at_node drafts n (value_of d drafts)

-- ---- the nodes, with the data of their defaults

-- of a field, if it has a default
abbrev pub field_default : List Draft → ℕ → Option Data → Option (Option Datum)
field_default drafts n None = Some None
field_default drafts n (Some d) = option_map Some (default_of drafts n d)

-- of each field
abbrev pub field_defaults : List Draft → List DraftField → Option (List (Option Datum))
field_defaults drafts [] = Some []
field_defaults drafts (f ∷ fs) =
    option_and_then (λ d. option_map (λ ds. d ∷ ds) (field_defaults drafts fs)) (field_default drafts f.node f.default)

abbrev pub node_defaults : List Draft → Draft → Option (List (Option Datum))
node_defaults drafts (Whole n) = Some []
node_defaults drafts (RecordDraft names fs) = field_defaults drafts fs

-- of each node
abbrev pub all_defaults : List Draft → List Draft → Option (List (List (Option Datum)))
all_defaults drafts [] = Some []
all_defaults drafts (d ∷ ds) =
    option_and_then (λ own. option_map (λ all. own ∷ all) (all_defaults drafts ds)) (node_defaults drafts d)

abbrev pub field_with : DraftField → Option Datum → FieldNode
field_with f default = record { name = f.name; aliases = f.aliases; node = f.node; default = default }

abbrev pub fields_with : List DraftField → List (Option Datum) → List FieldNode
fields_with (f ∷ fs) (d ∷ ds) = field_with f d ∷ fields_with fs ds
fields_with _ _ = []

abbrev pub node_with : Draft → List (Option Datum) → Node
node_with (Whole n) defaults = n
node_with (RecordDraft names fs) defaults = RecordNode names (fields_with fs defaults)

abbrev pub nodes_with : List Draft → List (List (Option Datum)) → List Node
nodes_with (d ∷ ds) (own ∷ all) = node_with d own ∷ nodes_with ds all
nodes_with _ _ = []

-- all nodes, or the fault of a default
unfoldable pub finished : List Draft → Result (List Node) SchemaError
finished drafts = ok_or (option_map (nodes_with drafts) (all_defaults drafts drafts)) BadDefault
