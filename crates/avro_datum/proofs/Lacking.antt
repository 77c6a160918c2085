-- Where reading a datum runs out of memory, what is known of its decoding.
use Rattle.std.proofs.Common.{◌≡◌, ◌⊎◌, ℕ, List, Option, Some, false, ap, inl, inr, slice_get}
use Rattle.spec_decoding.specs.Decoding.{Complete, Decoding, Failed}
use Rattle.avro_bytes.specs.Decoding.{IsComplete, map_decoding}
use Rattle.spec_avro.specs.Datum.{Datum, UnionDatum}
use Rattle.spec_avro.specs.Node.{Node, BytesNode, TextNode, FixedNode, ArrayNode, MapNode, UnionNode, RecordNode}
use Rattle.spec_avro.specs.WellFormed.{is_union}
use Rattle.avro_datum.specs.Decoding.{IsLeaf}
use Rattle.avro_datum.specs.Memory.{HoldsOthers, KindLacks, LeafLacks, holds_others}

pub leaf_lacks : (n : Node) (nodes : List Node) (x : Decoding Datum) → IsLeaf n → LeafLacks n x → KindLacks nodes (Some n) x
leaf_lacks (ArrayNode inner) nodes x l h = absurd l
leaf_lacks (MapNode inner) nodes x l h = absurd l
leaf_lacks (UnionNode members) nodes x l h = absurd l
leaf_lacks (RecordNode name fields) nodes x l h = absurd l
leaf_lacks _ nodes x l h = h

complete_mapped : {A B : Type 0} (f : A → B) (x : Decoding A) → IsComplete x → IsComplete (map_decoding f x)
complete_mapped f (Complete v to m) c = tt
complete_mapped f (Failed d) c = absurd c

pub member_lacks : (o : Option Node) (nodes : List Node) (members : List ℕ) (n member : ℕ) (x : Decoding Datum) → slice_get members n ≡ Some member → slice_get nodes member ≡ o → is_union o ≡ false → KindLacks nodes o x → IsComplete (map_decoding (UnionDatum n) x) ⊎ HoldsOthers nodes members
member_lacks (Some (ArrayNode inner)) nodes members n member x got k u h = inr (n, member, got, ap holds_others k)
member_lacks (Some (MapNode inner)) nodes members n member x got k u h = inr (n, member, got, ap holds_others k)
member_lacks (Some (RecordNode name fields)) nodes members n member x got k u h = inr (n, member, got, ap holds_others k)
member_lacks (Some (UnionNode others)) nodes members n member x got k u h = absurd cc
member_lacks (Some BytesNode) nodes members n member x got k u h = inl (complete_mapped (UnionDatum n) x h)
member_lacks (Some TextNode) nodes members n member x got k u h = inl (complete_mapped (UnionDatum n) x h)
member_lacks (Some (FixedNode name size)) nodes members n member x got k u h = inl (complete_mapped (UnionDatum n) x h)
member_lacks _ nodes members n member x got k u h = absurd h
