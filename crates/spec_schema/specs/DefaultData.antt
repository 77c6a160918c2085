-- Which datum a JSON value is, as the default of a field (Avro 1.11, "Complex Types": "Permitted values depend on the
-- field's schema type").
use Rattle.std.specs.Prelude.{◌≡◌, ℕ, ◌<◌, List, [], ◌∷◌, length, Option, Some, None, slice_get}
use Rattle.std.specs.List.{AllByRecursion}
use Rattle.std.specs.Str.{chars}
use Rattle.serde_json.specs.Data as json
use Rattle.serde_json.specs.Data.{Items, no_items, item, Members, no_members, member}
use Rattle.serde_json.specs.Find.{as_i64, get_member}
use Rattle.spec_avro.specs.Conforming.{HasBits}
use Rattle.spec_avro.specs.Datum.{Datum, Data, Pairs, NullDatum, BooleanDatum, IntDatum, LongDatum, BytesDatum, TextDatum, FixedDatum, EnumDatum, ArrayDatum, MapDatum, UnionDatum, RecordDatum, no_more, more, no_pairs, pair}
use Rattle.spec_avro.specs.Node.{Names, Node, FieldNode, NullNode, BooleanNode, IntNode, LongNode, BytesNode, TextNode, FixedNode, EnumNode, ArrayNode, MapNode, UnionNode, RecordNode}
use Rattle.spec_schema.specs.Draft.{Draft, Whole, RecordDraft, DraftField}

-- "default values for bytes and fixed fields are JSON strings, where Unicode code points 0-255 are mapped to unsigned
-- 8-bit byte values 0-255"
abbrev pub AreBytes : List ℕ → Type 0
AreBytes s = AllByRecursion (λ c. c < 256) (chars s)

module _ (nodes : List Draft) where
  mutual
    -- by the node at an index
    pub data IsDefaultAt : ℕ → json.Data → Datum → Type 0 where
      by_type : {n : ℕ} {draft : Draft} {d : json.Data} {datum : Datum}
          → slice_get nodes n ≡ Some draft → IsDefaultOf draft d datum → IsDefaultAt n d datum
      -- "default values for union fields correspond to the first schema in the union"
      by_first : {n m : ℕ} {ms : List ℕ} {draft : Draft} {d : json.Data} {datum : Datum}
          → slice_get nodes n ≡ Some (Whole (UnionNode (m ∷ ms))) → slice_get nodes m ≡ Some draft
          → IsDefaultOf draft d datum → IsDefaultAt n d (UnionDatum 0 datum)

    -- by a node that is no union
    pub data IsDefaultOf : Draft → json.Data → Datum → Type 0 where
      null_default : IsDefaultOf (Whole NullNode) json.null NullDatum
      boolean_default : {b : _} → IsDefaultOf (Whole BooleanNode) (json.boolean b) (BooleanDatum b)
      int_default : {x : json.Num} {z : _}
          → as_i64 x ≡ Some z → HasBits 31 z → IsDefaultOf (Whole IntNode) (json.number x) (IntDatum z)
      long_default : {x : json.Num} {z : _}
          → as_i64 x ≡ Some z → HasBits 63 z → IsDefaultOf (Whole LongNode) (json.number x) (LongDatum z)
      bytes_default : {s : List ℕ} → AreBytes s → IsDefaultOf (Whole BytesNode) (json.string s) (BytesDatum (chars s))
      text_default : {s : List ℕ} → IsDefaultOf (Whole TextNode) (json.string s) (TextDatum s)
      fixed_default : {names : Names} {size : ℕ} {s : List ℕ}
          → AreBytes s → length (chars s) ≡ size
          → IsDefaultOf (Whole (FixedNode names size)) (json.string s) (FixedDatum (chars s))
      enum_default : {names : Names} {symbols : List (List ℕ)} {default : Option ℕ} {s : List ℕ} {n : ℕ}
          → slice_get symbols n ≡ Some s
          → IsDefaultOf (Whole (EnumNode names symbols default)) (json.string s) (EnumDatum n)
      array_default : {n : ℕ} {ds : Items} {row : Data}
          → AreItems n ds row → IsDefaultOf (Whole (ArrayNode n)) (json.array ds) (ArrayDatum row)
      map_default : {n : ℕ} {ms : Members} {pairs : Pairs}
          → ArePairs n ms pairs → IsDefaultOf (Whole (MapNode n)) (json.object ms) (MapDatum pairs)
      -- this project's own rule: the object has each field, whether the field has a default or not
      record_default : {names : Names} {fs : List DraftField} {ms : Members} {row : Data}
          → AreFields ms fs row → IsDefaultOf (RecordDraft names fs) (json.object ms) (RecordDatum row)

    -- the elements, one by one
    pub data AreItems : ℕ → Items → Data → Type 0 where
      no_item : {n : ℕ} → AreItems n no_items no_more
      one_item : {n : ℕ} {d : json.Data} {ds : Items} {datum : Datum} {rest : Data}
          → IsDefaultAt n d datum → AreItems n ds rest → AreItems n (item d ds) (more datum rest)

    -- the members, in the order of their keys (this project's own rule)
    pub data ArePairs : ℕ → Members → Pairs → Type 0 where
      no_pair : {n : ℕ} → ArePairs n no_members no_pairs
      one_pair : {n : ℕ} {k : List ℕ} {d : json.Data} {ms : Members} {datum : Datum} {rest : Pairs}
          → IsDefaultAt n d datum → ArePairs n ms rest → ArePairs n (member k d ms) (pair k datum rest)

    -- the members with the fields' names, one by one
    pub data AreFields : Members → List DraftField → Data → Type 0 where
      no_field : {ms : Members} → AreFields ms [] no_more
      one_field : {ms : Members} {f : DraftField} {fs : List DraftField} {d : json.Data} {datum : Datum} {rest : Data}
          → get_member f.name ms ≡ Some d → IsDefaultAt f.node d datum → AreFields ms fs rest
          → AreFields ms (f ∷ fs) (more datum rest)

  -- ---- nodes with the data of their defaults

  -- a field, with the datum of its default, if it has one
  pub data IsFieldOf : DraftField → FieldNode → Type 0 where
    without_default : {name : List ℕ} {aliases : List (List ℕ)} {n : ℕ}
        → IsFieldOf (record { name = name; aliases = aliases; node = n; default = None })
        (record { name = name; aliases = aliases; node = n; default = None })
    with_default : {name : List ℕ} {aliases : List (List ℕ)} {n : ℕ} {d : json.Data} {datum : Datum}
        → IsDefaultAt n d datum
        → IsFieldOf (record { name = name; aliases = aliases; node = n; default = Some d })
        (record { name = name; aliases = aliases; node = n; default = Some datum })

  pub data AreFieldsOf : List DraftField → List FieldNode → Type 0 where
    no_more_fields : AreFieldsOf [] []
    one_more_field : {f : DraftField} {node : FieldNode} {fs : List DraftField} {rest : List FieldNode}
        → IsFieldOf f node → AreFieldsOf fs rest → AreFieldsOf (f ∷ fs) (node ∷ rest)

  pub data IsNodeOf : Draft → Node → Type 0 where
    a_whole : {node : Node} → IsNodeOf (Whole node) node
    a_record_of : {names : Names} {fs : List DraftField} {fields : List FieldNode} → AreFieldsOf fs fields
        → IsNodeOf (RecordDraft names fs) (RecordNode names fields)

  -- one by one
  pub data AreNodesOf : List Draft → List Node → Type 0 where
    no_more_nodes : AreNodesOf [] []
    one_more_node : {draft : Draft} {node : Node} {drafts : List Draft} {rest : List Node}
        → IsNodeOf draft node → AreNodesOf drafts rest → AreNodesOf (draft ∷ drafts) (node ∷ rest)
