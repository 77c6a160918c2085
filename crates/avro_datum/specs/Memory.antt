-- Where reading a datum of a node may run out of memory. This project's own rules: the standard says nothing of memory.
use Rattle.std.specs.Prelude.{◌≡◌, ◌⊎◌, ℕ, List, Option, Some, None, slice_get, Bool, true, false}
use Rattle.spec_decoding.specs.Decoding.{Decoding}
use Rattle.avro_bytes.specs.Decoding.{IsComplete}
use Rattle.spec_avro.specs.Datum.{Datum}
use Rattle.spec_avro.specs.Node.{Node, BytesNode, TextNode, FixedNode, ArrayNode, MapNode, UnionNode, RecordNode}

-- bytes, a text and a fixed are copied once they are all there; null, a boolean, a number and an enum take no memory
abbrev pub LeafLacks : Node → Decoding Datum → Type 0
LeafLacks BytesNode decoding = IsComplete decoding
LeafLacks TextNode decoding = IsComplete decoding
LeafLacks (FixedNode name size) decoding = IsComplete decoding
LeafLacks _ decoding = ⊥

-- the kinds that hold others, however many
abbrev pub holds_others : Option Node → Bool
holds_others (Some (ArrayNode inner)) = true
holds_others (Some (MapNode inner)) = true
holds_others (Some (RecordNode name fields)) = true
holds_others _ = false

-- a branch holds others
abbrev pub HoldsOthers : List Node → List ℕ → Type 0
HoldsOthers nodes members =
    (n : ℕ) × (member : ℕ) × (slice_get members n ≡ Some member) × (holds_others (slice_get nodes member) ≡ true)

-- what holds others takes memory as it goes; a union takes some once its branch's datum is all there
abbrev pub KindLacks : List Node → Option Node → Decoding Datum → Type 0
KindLacks nodes (Some (ArrayNode inner)) decoding = Unit {0}
KindLacks nodes (Some (MapNode inner)) decoding = Unit {0}
KindLacks nodes (Some (RecordNode name fields)) decoding = Unit {0}
KindLacks nodes (Some (UnionNode members)) decoding = IsComplete decoding ⊎ HoldsOthers nodes members
KindLacks nodes (Some kind) decoding = LeafLacks kind decoding
KindLacks nodes None decoding = ⊥

-- what decoding is like where reading a datum of the node ran out of memory
abbrev pub Lacks : List Node → ℕ → Decoding Datum → Type 0
Lacks nodes node decoding = KindLacks nodes (slice_get nodes node) decoding
