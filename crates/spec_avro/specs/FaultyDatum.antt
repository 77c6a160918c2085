-- The first fault of bytes that begin no datum of a node: all parts before one are spelled, and that part is faulty.
-- Which bytes spell none is the standard's rule (Avro 1.11, "Binary Encoding"). This project's own rules: the kinds
-- of faults, their places, and the limits.
use Rattle.std.specs.Prelude.{◌≡◌, ℕ, List, ◌∷◌, ◌++◌, length, Option, Some, None, slice_get, true, false}
use Rattle.spec_avro.specs.declared.meter.Meter.{Meter}
use Rattle.spec_avro.specs.declared.malformed.MalformedKind.{MalformedKind}
use Rattle.spec_avro.specs.declared.malformed.MalformedKind.TheVariants.{BadEnum, BadBranch, Truncated, Trailing}
use Rattle.spec_avro.specs.Blob.{FaultyFixed}
use Rattle.spec_avro.specs.Boolean.{FaultyBoolean}
use Rattle.spec_avro.specs.Meter.{Counts, OpensBlocks, OpensRecord, RefusesBlocks, RefusesRecord, start}
use Rattle.spec_avro.specs.Number.{int_limit, long_limit}
use Rattle.spec_avro.specs.Text.{IsText}
use Rattle.spec_avro.specs.Node.{Node, Names, FieldNode, BooleanNode, IntNode, LongNode, BytesNode, TextNode, FixedNode, EnumNode, ArrayNode, MapNode, UnionNode, RecordNode}
use Rattle.spec_avro.specs.WellFormed.{is_union}
use Rattle.spec_avro.specs.Datum.{Datum}
use Rattle.spec_avro.specs.ItemFault.{Begins, FaultyBlocks}
use Rattle.spec_avro.specs.Position.{FaultyPosition, SpellsPosition}
use Rattle.spec_avro.specs.Spelling.{Spells, Fits, depth_of, units_of}
use Rattle.spec_avro.specs.Defect.{Defect, Malformed, Need}
use Rattle.spec_avro.specs.Fault.{FaultyContent, FaultyNumber, FaultyText, shifted}

-- a key, and a datum of the node after it
abbrev pub SpellsPair : List Node → ℕ → List ℕ × Datum → List ℕ → Type 0
SpellsPair nodes node p bytes =
    (front : List ℕ) × (rest : List ℕ) × (bytes ≡ front ++ rest) × IsText p.0 front × Spells nodes node p.1 rest

abbrev pub pair_depth : List ℕ × Datum → ℕ
pair_depth p = depth_of p.1

abbrev pub pair_units : List ℕ × Datum → ℕ
pair_units p = units_of p.1

module _ (nodes : List Node) where
  mutual
    -- a node, the bytes from its place on, and the meter there: the bytes are faulty for the node's kind
    pub data FaultyDatum : ℕ → List ℕ → Meter → Defect → Type 0 where
      faulty : {node : ℕ} {bytes : List ℕ} {m : Meter} {d : Defect} (kind : Node) → slice_get nodes node ≡ Some kind
          → FaultyKind kind bytes m d
          → FaultyDatum node bytes m d
      -- a number that is no node's: nothing spells it, and no byte is faulty
      no_node : {node : ℕ} {bytes : List ℕ} {m : Meter} → slice_get nodes node ≡ None → FaultyDatum node bytes m Need

    -- the bytes from an offset on are faulty for a kind, with the meter there
    pub data FaultyKind : Node → List ℕ → Meter → Defect → Type 0 where
      faulty_boolean : {bytes : List ℕ} {m : Meter} {d : Defect} → FaultyBoolean bytes d
          → FaultyKind BooleanNode bytes m d
      faulty_int : {bytes : List ℕ} {m : Meter} {d : Defect} → FaultyNumber int_limit bytes d
          → FaultyKind IntNode bytes m d
      faulty_long : {bytes : List ℕ} {m : Meter} {d : Defect} → FaultyNumber long_limit bytes d
          → FaultyKind LongNode bytes m d
      faulty_bytes : {bytes : List ℕ} {m : Meter} {d : Defect} → FaultyContent bytes d → FaultyKind BytesNode bytes m d
      faulty_text : {bytes : List ℕ} {m : Meter} {d : Defect} → FaultyText bytes d → FaultyKind TextNode bytes m d
      faulty_fixed : {name : Names} {size : ℕ} {bytes : List ℕ} {m : Meter} {d : Defect} → FaultyFixed size bytes d
          → FaultyKind (FixedNode name size) bytes m d
      faulty_enum : {name : Names} {symbols : List (List ℕ)} {default : Option ℕ}
          {bytes : List ℕ} {m : Meter} {d : Defect}
          → FaultyPosition BadEnum (length symbols) bytes d → FaultyKind (EnumNode name symbols default) bytes m d
      -- a union: its position, or the branch's datum after it
      faulty_branch : {members : List ℕ} {bytes : List ℕ} {m : Meter} {d : Defect}
          → FaultyPosition BadBranch (length members) bytes d
          → FaultyKind (UnionNode members) bytes m d
      faulty_member : {members : List ℕ} {bytes : List ℕ} {m : Meter} {d : Defect}
          (n member : ℕ) (front rest : List ℕ) (further : Defect)
          → slice_get members n ≡ Some member → is_union (slice_get nodes member) ≡ false → bytes ≡ front ++ rest
          → SpellsPosition (length members) n front → FaultyDatum member rest m further
          → d ≡ shifted (length front) further → FaultyKind (UnionNode members) bytes m d
      -- a branch that is a union, which no schema has: nothing spells it, and no byte is faulty
      no_member : {members : List ℕ} {bytes : List ℕ} {m : Meter} (n member : ℕ) (front rest : List ℕ)
          → slice_get members n ≡ Some member → is_union (slice_get nodes member) ≡ true → bytes ≡ front ++ rest
          → SpellsPosition (length members) n front → FaultyKind (UnionNode members) bytes m Need
      -- an array would be too deep; or the fault is around its items, or in an item after others
      refused_array : {inner : ℕ} {bytes : List ℕ} {m : Meter} {d : Defect} → RefusesBlocks m d
          → FaultyKind (ArrayNode inner) bytes m d
      faulty_array : {inner : ℕ} {bytes : List ℕ} {m : Meter} {d : Defect} (inside : Meter) → OpensBlocks m inside
          → FaultyBlocks (Spells nodes inner) depth_of units_of bytes inside d → FaultyKind (ArrayNode inner) bytes m d
      faulty_item : {inner : ℕ} {bytes : List ℕ} {m : Meter} {d : Defect}
          (inside opened : Meter) (front rest : List ℕ) (further : Defect)
          → OpensBlocks m inside → Begins (Spells nodes inner) depth_of units_of bytes inside front rest opened
          → FaultyDatum inner rest opened further → d ≡ shifted (length front) further
          → FaultyKind (ArrayNode inner) bytes m d
      -- a map would be too deep; or the fault is around its pairs, or in a key or a datum after others
      refused_map : {inner : ℕ} {bytes : List ℕ} {m : Meter} {d : Defect} → RefusesBlocks m d
          → FaultyKind (MapNode inner) bytes m d
      faulty_map : {inner : ℕ} {bytes : List ℕ} {m : Meter} {d : Defect} (inside : Meter) → OpensBlocks m inside
          → FaultyBlocks (SpellsPair nodes inner) pair_depth pair_units bytes inside d
          → FaultyKind (MapNode inner) bytes m d
      faulty_key : {inner : ℕ} {bytes : List ℕ} {m : Meter} {d : Defect}
          (inside opened : Meter) (front rest : List ℕ) (further : Defect)
          → OpensBlocks m inside → Begins (SpellsPair nodes inner) pair_depth pair_units bytes inside front rest opened
          → FaultyText rest further → d ≡ shifted (length front) further → FaultyKind (MapNode inner) bytes m d
      faulty_value : {inner : ℕ} {bytes : List ℕ} {m : Meter} {d : Defect}
          (inside opened : Meter) (front rest key spelling value : List ℕ)
          (further : Defect) → OpensBlocks m inside
          → Begins (SpellsPair nodes inner) pair_depth pair_units bytes inside front rest opened
          → rest ≡ spelling ++ value → IsText key spelling → FaultyDatum inner value opened further
          → d ≡ shifted (length front) (shifted (length spelling) further) → FaultyKind (MapNode inner) bytes m d
      -- a record would be too deep, or one too many; or one of its fields
      refused_record : {name : Names} {fields : List FieldNode} {bytes : List ℕ} {m : Meter} {d : Defect}
          → RefusesRecord m d
          → FaultyKind (RecordNode name fields) bytes m d
      faulty_record : {name : Names} {fields : List FieldNode} {bytes : List ℕ} {m : Meter} {d : Defect}
          (inside : Meter) → OpensRecord m inside
          → FaultyFields fields bytes inside d → FaultyKind (RecordNode name fields) bytes m d

    -- the first field is faulty, or it is spelled and the fields after it are faulty
    pub data FaultyFields : List FieldNode → List ℕ → Meter → Defect → Type 0 where
      here : {f : FieldNode} {fs : List FieldNode} {bytes : List ℕ} {m : Meter} {d : Defect}
          → FaultyDatum f.node bytes m d → FaultyFields (f ∷ fs) bytes m d
      later : {f : FieldNode} {fs : List FieldNode} {bytes : List ℕ} {m : Meter} {d : Defect}
          (datum : Datum) (front rest : List ℕ) (after : Meter)
          (further : Defect) → bytes ≡ front ++ rest → Spells nodes f.node datum front
          → Counts (depth_of datum) (units_of datum) m after → FaultyFields fs rest after further
          → d ≡ shifted (length front) further → FaultyFields (f ∷ fs) bytes m d

-- bytes are left after the datum of the root
pub record IsTrailing (nodes : List Node) (payload : List ℕ) (at : ℕ) : Type 0 where
  pub datum : Datum
  pub front : List ℕ
  pub first : ℕ
  pub rest : List ℕ
  pub parts : payload ≡ front ++ first ∷ rest
  pub spelled : Spells nodes 0 datum front
  pub fits : Fits datum
  pub place : at ≡ length front

-- the first fault of a payload, which should spell a datum of the root
pub data FirstFault (nodes : List Node) (payload : List ℕ) (kind : MalformedKind) (at : ℕ) : Type 0 where
  malformed : FaultyDatum nodes 0 payload start (Malformed kind at) → FirstFault nodes payload kind at
  truncated : FaultyDatum nodes 0 payload start Need → kind ≡ Truncated → at ≡ length payload
      → FirstFault nodes payload kind at
  trailing : IsTrailing nodes payload at → kind ≡ Trailing → FirstFault nodes payload kind at
