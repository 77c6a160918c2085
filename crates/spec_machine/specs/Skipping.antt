-- K(w): the code that reads a datum of the writer's node w and writes nothing. This project's own.
use Rattle.std.specs.Prelude.{ℕ, zero, suc, List, [], ◌∷◌, ◌++◌, length, map, Option, Some, None, slice_get}
use Rattle.spec_avro.specs.Node.{Node, FieldNode, NullNode, BooleanNode, IntNode, LongNode, BytesNode, TextNode, FixedNode, EnumNode, ArrayNode, MapNode, UnionNode, RecordNode}
use Rattle.spec_machine.specs.declared.instr.Instr.TheVariants as op
use Rattle.spec_machine.specs.Statements.{Statement, Op, Call, Lost, Skip, branched, looped}

-- the code of a node, by that of its items, values and branches
abbrev pub skip_node : (ℕ → List Statement) → ℕ → Option Node → List Statement
skip_node K w (Some NullNode) = []
skip_node K w (Some BooleanNode) = Op op.SkipBool ∷ []
skip_node K w (Some IntNode) = Op op.SkipInt ∷ []
skip_node K w (Some LongNode) = Op op.SkipLong ∷ []
skip_node K w (Some BytesNode) = Op op.SkipBytes ∷ []
skip_node K w (Some TextNode) = Op op.SkipText ∷ []
skip_node K w (Some (FixedNode names size)) = Op (op.SkipFixed size) ∷ []
skip_node K w (Some (EnumNode names symbols default)) = Op (op.SkipEnum (length symbols)) ∷ []
skip_node K w (Some (ArrayNode item)) = Op op.SkipBlocks ∷ looped op.SkipNext (K item)
skip_node K w (Some (MapNode value)) = Op op.SkipBlocks ∷ looped op.SkipNext (Op op.SkipText ∷ K value)
skip_node K w (Some (UnionNode members)) = branched (map K members)
skip_node K w (Some (RecordNode names fields)) = Call (Skip w) ∷ []
skip_node K w None = Lost ∷ []

module _ (W : List Node) where
  -- arrays, maps and unions hold each other at most n deep
  unfoldable pub skip_within : ℕ → ℕ → List Statement
  skip_within zero w = Lost ∷ []
  skip_within (suc n) w = skip_node (skip_within n) w (slice_get W w)

  abbrev pub K : ℕ → List Statement
  K w = skip_within (suc (length W)) w

  abbrev pub skip_fields : List FieldNode → List Statement
  skip_fields [] = []
  skip_fields (f ∷ fields) = K f.node ++ skip_fields fields

  -- the skip routine: ENTER; K of each field; LEAVE; RET
  abbrev pub skip_routine : Option Node → List Statement
  skip_routine (Some (RecordNode names fields)) = Op op.Enter ∷ (skip_fields fields ++ Op op.Leave ∷ Op op.Return ∷ [])
  skip_routine _ = Lost ∷ []
