-- The statements of K are good.
use Rattle.std.proofs.Common.{◌≡◌, ℕ, zero, suc, ◌<◌, false, List, ◌∷◌, length, Option, Some, None, refl, ap}
use Rattle.std.specs.Prelude.{slice_get}
use Rattle.spec_avro.specs.Node.{Node, NullNode, BooleanNode, IntNode, LongNode, BytesNode, TextNode, FixedNode, EnumNode, ArrayNode, MapNode, UnionNode, RecordNode}
use Rattle.spec_avro.specs.WellFormed.{IsMember, IsPartOf, IsWellFormed, is_named}
use Rattle.spec_machine.specs.declared.instr.Instr.TheVariants as op
use Rattle.spec_machine.specs.Statements.{Statement, Op}
use Rattle.spec_machine.specs.Skipping.{K, skip_node, skip_within}
use Rattle.program_definition.proofs.Good.{AllGood, good_branched, good_loop}
use Rattle.program_definition.proofs.Levels.{Enough, enough, enough_on, is_there, not_none}

module _ (W R : List Node) (formed : IsWellFormed W) where
  abbrev Good : List Statement → Type 0
  Good ls = AllGood W R 1 ls

  module _ (F : ℕ → List Statement) (w : ℕ) (lt : w < length W) (inner : is_named (slice_get W w) ≡ false → (m : ℕ) → m < length W → IsPartOf W w m → Good (F m)) where
    node_good : (x : Option Node) → slice_get W w ≡ x → Good (skip_node F w x)
    node_good None e = absurd (is_there W w lt e)
    node_good (Some NullNode) e = tt
    node_good (Some BooleanNode) e = (λ sizes. tt, tt)
    node_good (Some IntNode) e = (λ sizes. tt, tt)
    node_good (Some LongNode) e = (λ sizes. tt, tt)
    node_good (Some BytesNode) e = (λ sizes. tt, tt)
    node_good (Some TextNode) e = (λ sizes. tt, tt)
    node_good (Some (FixedNode names size)) e = (λ sizes. formed.each w (FixedNode names size) e, tt)
    node_good (Some (EnumNode names symbols default)) e = (λ sizes. (formed.each w (EnumNode names symbols default) e).1, tt)
    node_good (Some (ArrayNode item)) e =
        let held = formed.each w (ArrayNode item) e in
        (λ sizes. tt, good_loop W R op.SkipNext (F item) (λ sizes a lt. lt) (inner (ap is_named e) item held.below held.part))
    node_good (Some (MapNode value)) e =
        let held = formed.each w (MapNode value) e in
        (λ sizes. tt, good_loop W R op.SkipNext (Op op.SkipText ∷ F value) (λ sizes a lt. lt) (λ sizes. tt, inner (ap is_named e) value held.below held.part))
    node_good (Some (UnionNode members)) e = good_branched W R F (IsMember W w) members (formed.each w (UnionNode members) e).0 (λ m is. inner (ap is_named e) m is.below is.part)
    node_good (Some (RecordNode names fields)) e = ((names, fields, e), tt)

  good_within : (n w : ℕ) → w < length W → Enough W n w → Good (skip_within W n w)
  unfolding skip_within
  good_within zero w lt levels = absurd (not_none W w lt levels)
  good_within (suc n) w lt levels = node_good (skip_within W n) w lt (λ unnamed m below part. good_within n m below (enough_on W n w m levels lt unnamed below part)) (slice_get W w) refl

  pub good_K : (w : ℕ) → w < length W → Good (K W w)
  good_K w lt = good_within (suc (length W)) w lt (enough W w)
