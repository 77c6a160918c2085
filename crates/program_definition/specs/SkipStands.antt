-- Code that reads a datum of the writer's and writes nothing, as it is in a program.
-- All of this is this project's own.
use Rattle.std.specs.Prelude.{◌≡◌, ℕ, ◌+◌, false, List, [], ◌∷◌, length, Option, Some, slice_get}
use Rattle.spec_avro.specs.Node.{Node, Names, FieldNode, NullNode, BooleanNode, IntNode, LongNode, BytesNode, TextNode, FixedNode, EnumNode, ArrayNode, MapNode, UnionNode, RecordNode}
use Rattle.spec_avro.specs.WellFormed.{is_union}
use Rattle.spec_machine.specs.declared.instr.Instr.{Instr}
use Rattle.spec_machine.specs.declared.instr.Instr.TheVariants as op
use Rattle.spec_machine.specs.Program.{Program}
use Rattle.spec_machine.specs.Statements.{Section, Skip}

-- the instruction at that address
abbrev pub At : Program → ℕ → Instr → Type 0
At P pc i = slice_get P.code pc ≡ Some i

-- Begins s a: the routine of section s begins at address a
module _ (W : List Node) (P : Program) (Begins : Section → ℕ → Type 0) where
  mutual
    -- K(w) from one address up to another, where the code after it begins
    pub data Skips : ℕ → ℕ → ℕ → Type 0 where
      k_plain : {pc w q : ℕ} → is_union (slice_get W w) ≡ false → SkipsPlain pc w q → Skips pc w q
      -- union: BRANCH t; K of each member; t holds where each begins
      k_union : {pc w q : ℕ} (members places : List ℕ) (t : ℕ) → slice_get W w ≡ Some (UnionNode members)
          → At P pc (op.Branch t) → slice_get P.jumps t ≡ Some places → SkipsMembers (pc + 1) members places q
          → Skips pc w q

    -- K(w) where w is no union
    pub data SkipsPlain : ℕ → ℕ → ℕ → Type 0 where
      -- null: nothing
      k_null : {pc w : ℕ} → slice_get W w ≡ Some NullNode → SkipsPlain pc w pc
      k_boolean : {pc w : ℕ} → slice_get W w ≡ Some BooleanNode → At P pc op.SkipBool → SkipsPlain pc w (pc + 1)
      k_int : {pc w : ℕ} → slice_get W w ≡ Some IntNode → At P pc op.SkipInt → SkipsPlain pc w (pc + 1)
      k_long : {pc w : ℕ} → slice_get W w ≡ Some LongNode → At P pc op.SkipLong → SkipsPlain pc w (pc + 1)
      k_bytes : {pc w : ℕ} → slice_get W w ≡ Some BytesNode → At P pc op.SkipBytes → SkipsPlain pc w (pc + 1)
      k_text : {pc w : ℕ} → slice_get W w ≡ Some TextNode → At P pc op.SkipText → SkipsPlain pc w (pc + 1)
      -- SFIXED size
      k_fixed : {pc w : ℕ} (names : Names) (size : ℕ) → slice_get W w ≡ Some (FixedNode names size)
          → At P pc (op.SkipFixed size) → SkipsPlain pc w (pc + 1)
      -- SENUM number of symbols
      k_enum : {pc w : ℕ} (names : Names) (symbols : List (List ℕ)) (default : Option ℕ)
          → slice_get W w ≡ Some (EnumNode names symbols default) → At P pc (op.SkipEnum (length symbols))
          → SkipsPlain pc w (pc + 1)
      -- array: SBLOCKS; L: SNEXT e; K(items); JUMP L; e:
      k_array : {pc w : ℕ} (item q : ℕ) → slice_get W w ≡ Some (ArrayNode item) → At P pc op.SkipBlocks
          → At P (pc + 1) (op.SkipNext (q + 1)) → Skips (pc + 1 + 1) item q → At P q (op.Jump (pc + 1))
          → SkipsPlain pc w (q + 1)
      -- map: SBLOCKS; L: SNEXT e; STEXT; K(values); JUMP L; e:
      k_map : {pc w : ℕ} (value q : ℕ) → slice_get W w ≡ Some (MapNode value) → At P pc op.SkipBlocks
          → At P (pc + 1) (op.SkipNext (q + 1)) → At P (pc + 1 + 1) op.SkipText
          → Skips (pc + 1 + 1 + 1) value q → At P q (op.Jump (pc + 1)) → SkipsPlain pc w (q + 1)
      -- record: CALL of its skip routine
      k_record : {pc w : ℕ} (names : Names) (fields : List FieldNode) (a : ℕ)
          → slice_get W w ≡ Some (RecordNode names fields) → Begins (Skip w) a → At P pc (op.Call a)
          → SkipsPlain pc w (pc + 1)

    -- the code of each branch, which begins at its place, after each but the last a JUMP to where the last ends
    pub data SkipsMembers : ℕ → List ℕ → List ℕ → ℕ → Type 0 where
      k_no_member : {pc : ℕ} → SkipsMembers pc [] [] pc
      k_last : {pc member q : ℕ} → is_union (slice_get W member) ≡ false → SkipsPlain pc member q
          → SkipsMembers pc (member ∷ []) (pc ∷ []) q
      k_member : {pc member other e : ℕ} {members places : List ℕ} (q : ℕ) → is_union (slice_get W member) ≡ false
          → SkipsPlain pc member q → At P q (op.Jump e) → SkipsMembers (q + 1) (other ∷ members) places e
          → SkipsMembers pc (member ∷ other ∷ members) (pc ∷ places) e

  -- K of each field
  pub data SkipsFields : ℕ → List FieldNode → ℕ → Type 0 where
    k_no_field : {pc : ℕ} → SkipsFields pc [] pc
    k_field : {pc e : ℕ} {f : FieldNode} {fields : List FieldNode} (q : ℕ) → Skips pc f.node q
        → SkipsFields q fields e → SkipsFields pc (f ∷ fields) e

  -- the skip routine of w begins here: ENTER; K of each field; LEAVE; RET
  pub record SkipRoutine (pc w : ℕ) : Type 0 where
    pub names : Names
    pub fields : List FieldNode
    pub q : ℕ
    pub is : slice_get W w ≡ Some (RecordNode names fields)
    pub opens : At P pc op.Enter
    pub body : SkipsFields (pc + 1) fields q
    pub closes : At P q op.Leave
    pub returns : At P (q + 1) op.Return
