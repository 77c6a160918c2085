-- The kinds of a node in groups: those that hold no others, arrays, maps, unions and records.
use Rattle.std.proofs.Common.{◌≡◌, ℕ, suc, List, Option, Some, None, false, refl, sym, subst, ◌∙◌, arith}
use Rattle.spec_avro.specs.declared.meter.Meter.{Meter}
use Rattle.spec_avro.specs.Node.{Node, Names, FieldNode, NullNode, BooleanNode, IntNode, LongNode, BytesNode, TextNode, FixedNode, EnumNode, ArrayNode, MapNode, UnionNode, RecordNode}
use Rattle.spec_avro.specs.WellFormed.{is_union}
use Rattle.avro_datum.specs.Decoding.{Decoder, IsLeaf, kind_at, leaf_at, plain_at}
use Rattle.avro_datum.specs.Laws.Decoders.{Deeper}

pub data Group : Option Node → Type 0 where
  nothing : Group None
  leaf : (n : Node) → IsLeaf n → Group (Some n)
  array_group : (inner : ℕ) → Group (Some (ArrayNode inner))
  map_group : (inner : ℕ) → Group (Some (MapNode inner))
  union_group : (members : List ℕ) → Group (Some (UnionNode members))
  record_group : (name : Names) (fields : List FieldNode) → Group (Some (RecordNode name fields))

pub group_of : (o : Option Node) → Group o
group_of None = nothing
group_of (Some NullNode) = leaf NullNode tt
group_of (Some BooleanNode) = leaf BooleanNode tt
group_of (Some IntNode) = leaf IntNode tt
group_of (Some LongNode) = leaf LongNode tt
group_of (Some BytesNode) = leaf BytesNode tt
group_of (Some TextNode) = leaf TextNode tt
group_of (Some (FixedNode name size)) = leaf (FixedNode name size) tt
group_of (Some (EnumNode name symbols default)) = leaf (EnumNode name symbols default) tt
group_of (Some (ArrayNode inner)) = array_group inner
group_of (Some (MapNode inner)) = map_group inner
group_of (Some (UnionNode members)) = union_group members
group_of (Some (RecordNode name fields)) = record_group name fields

pub leaf_no_union : (n : Node) → IsLeaf n → is_union (Some n) ≡ false
leaf_no_union (UnionNode members) f = absurd f
leaf_no_union _ f = refl

module _ (decoder : Decoder) (nodes : List Node) (bytes : List ℕ) (at : ℕ) (m : Meter) where
  pub leaf_is_plain : (n : Node) → IsLeaf n → plain_at decoder bytes (Some n) at m ≡ leaf_at bytes n at m
  leaf_is_plain NullNode l = refl
  leaf_is_plain BooleanNode l = refl
  leaf_is_plain IntNode l = refl
  leaf_is_plain LongNode l = refl
  leaf_is_plain BytesNode l = refl
  leaf_is_plain TextNode l = refl
  leaf_is_plain (FixedNode name size) l = refl
  leaf_is_plain (EnumNode name symbols default) l = refl
  leaf_is_plain (ArrayNode inner) l = absurd l
  leaf_is_plain (MapNode inner) l = absurd l
  leaf_is_plain (UnionNode members) l = absurd l
  leaf_is_plain (RecordNode name fields) l = absurd l

  pub leaf_is_kind : (n : Node) → IsLeaf n → kind_at decoder nodes bytes (Some n) at m ≡ leaf_at bytes n at m
  leaf_is_kind NullNode l = refl
  leaf_is_kind BooleanNode l = refl
  leaf_is_kind IntNode l = refl
  leaf_is_kind LongNode l = refl
  leaf_is_kind BytesNode l = refl
  leaf_is_kind TextNode l = refl
  leaf_is_kind (FixedNode name size) l = refl
  leaf_is_kind (EnumNode name symbols default) l = refl
  leaf_is_kind (ArrayNode inner) l = absurd l
  leaf_is_kind (MapNode inner) l = absurd l
  leaf_is_kind (UnionNode members) l = absurd l
  leaf_is_kind (RecordNode name fields) l = absurd l

  kind_in_group : (o : Option Node) → Group o → is_union o ≡ false → kind_at decoder nodes bytes o at m ≡ plain_at decoder bytes o at m
  kind_in_group _ nothing f = refl
  kind_in_group _ (leaf n l) f = leaf_is_kind n l ∙ sym (leaf_is_plain n l)
  kind_in_group _ (array_group inner) f = refl
  kind_in_group _ (map_group inner) f = refl
  kind_in_group _ (union_group members) f = absurd cc
  kind_in_group _ (record_group name fields) f = refl

  pub kind_is_plain : (o : Option Node) → is_union o ≡ false → kind_at decoder nodes bytes o at m ≡ plain_at decoder bytes o at m
  kind_is_plain o f = kind_in_group o (group_of o) f

-- ---- inside one that is opened

pub none_deeper : (P : ℕ → Type 0) → Deeper P 0
none_deeper P less e = absurd (omega (arith, e))

pub one_deeper : (P : ℕ → Type 0) (left : ℕ) → P left → Deeper P (suc left)
one_deeper P left h less e = let same : left ≡ less = omega (arith, e) in subst P same h
