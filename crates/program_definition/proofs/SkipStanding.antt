-- Where K's statements are placed, the program has K's code.
use Rattle.std.proofs.Common.{◌≡◌, ℕ, zero, suc, ◌+◌, ◌-◌, true, false, List, [], ◌∷◌, ◌++◌, length, map, Option, Some, None, refl, sym, ap, ◌∙◌, subst, arith, length-append}
use Rattle.std.specs.Prelude.{slice_get}
use Rattle.std.specs.List.{AllByRecursion}
use Rattle.spec_avro.specs.Node.{Node, NullNode, BooleanNode, IntNode, LongNode, BytesNode, TextNode, FixedNode, EnumNode, ArrayNode, MapNode, UnionNode, RecordNode}
use Rattle.spec_avro.specs.WellFormed.{IsMember, IsWellFormed, is_union}
use Rattle.spec_machine.specs.declared.instr.Instr.{Instr}
use Rattle.spec_machine.specs.declared.instr.Instr.TheVariants as op
use Rattle.spec_machine.specs.Program.{Program}
use Rattle.spec_machine.specs.Statements.{Section, Statement, Op, Ahead, Back, begins, branched, looped, one_of}
use Rattle.spec_machine.specs.Skipping.{skip_node, skip_within}
use Rattle.program_definition.specs.SkipStands.{At, Skips, SkipsPlain, SkipsMembers, k_plain, k_union, k_null, k_boolean, k_int, k_long, k_bytes, k_text, k_fixed, k_enum, k_array, k_map, k_record, k_no_member, k_last, k_member}
use Rattle.program_definition.proofs.Placed.{Placed, placed_front, placed_back}

pub loop_length : (next : ℕ → Instr) (body : List Statement) → length (looped next body) ≡ length body + 2
loop_length next body = let e = length-append body (Back (length body + 1) ∷ []) in omega (arith, e)

module _ (P : Program) (Begins : Section → ℕ → Type 0) where
  -- a loop's body is between its NEXT and its JUMP
  pub loop_placed : (pc : ℕ) (next : ℕ → Instr) (body : List Statement) → Placed P Begins pc (looped next body) → At P pc (next (pc + 1 + length body + 1)) × Placed P Begins (pc + 1) body × At P (pc + 1 + length body) (op.Jump pc)
  loop_placed pc next body h =
      let ahead : pc + (length body + 2) ≡ pc + 1 + length body + 1 = omega arith in
      let back : pc + 1 + length body - (length body + 1) ≡ pc = omega arith in
      let last = placed_back P Begins (pc + 1) body (Back (length body + 1) ∷ []) h.1 in
      (h.0 ∙ ap (λ a. Some (next a)) ahead, placed_front P Begins (pc + 1) body (Back (length body + 1) ∷ []) h.1, last.0 ∙ ap (λ a. Some (op.Jump a)) back)

module _ (W : List Node) (P : Program) (Begins : Section → ℕ → Type 0) where
  abbrev SkipsAt : ℕ → ℕ → ℕ → Type 0
  SkipsAt pc w q = Skips W P Begins pc w q

  pub plain_skips : (pc w q : ℕ) → is_union (slice_get W w) ≡ false → SkipsAt pc w q → SkipsPlain W P Begins pc w q
  plain_skips pc w q apart (k_plain n s) = s
  plain_skips pc w q apart (k_union members places t is at jumps s) = absurd (let two : true ≡ false = sym (ap is_union is) ∙ apart in let no : ⊥ = cc in no)

  -- wherever the statements are placed, K(w) is there, and ends after as many addresses
  abbrev pub SkipsAll : (ℕ → List Statement) → Type 0
  SkipsAll K = (pc w : ℕ) → Placed P Begins pc (K w) → SkipsAt pc w (pc + length (K w))

  module _ (K : ℕ → List Statement) (all : SkipsAll K) where
    members_skip : (own pc far : ℕ) (ms : List ℕ) → AllByRecursion (IsMember W own) ms → Placed P Begins (pc + far) (one_of (map K ms)) → SkipsMembers W P Begins (pc + far) ms (map (λ far. pc + far) (begins far (map K ms))) (pc + far + length (one_of (map K ms)))
    members_skip own pc far [] are h = subst (SkipsMembers W P Begins (pc + far) [] []) (let e : pc + far ≡ pc + far + 0 = omega arith in e) k_no_member
    members_skip own pc far (m ∷ []) are h = k_last are.0.no_union (plain_skips (pc + far) m _ are.0.no_union (all (pc + far) m h))
    members_skip own pc far (m ∷ n ∷ ms) are h =
        let c = K m in
        let rest = one_of (map K (n ∷ ms)) in
        let q = pc + far + length c in
        let jump = Ahead op.Jump (length rest + 1) in
        let front = placed_front P Begins (pc + far) c (jump ∷ rest) h in
        let back = placed_back P Begins (pc + far) c (jump ∷ rest) h in
        let e1 : q + 1 ≡ pc + (far + length c + 1) = omega arith in
        let e2 : q + (length rest + 1) ≡ pc + far + length (c ++ jump ∷ rest) = omega (arith, length-append c (jump ∷ rest)) in
        let e3 : pc + (far + length c + 1) + length rest ≡ pc + far + length (c ++ jump ∷ rest) = omega (arith, length-append c (jump ∷ rest)) in
        let later = members_skip own pc (far + length c + 1) (n ∷ ms) are.1 (subst (λ k. Placed P Begins k rest) e1 back.1) in
        let places = map (λ far. pc + far) (begins (far + length c + 1) (map K (n ∷ ms))) in
        k_member q are.0.no_union (plain_skips (pc + far) m q are.0.no_union (all (pc + far) m front)) (back.0 ∙ ap (λ a. Some (op.Jump a)) e2)
        (subst (λ k. SkipsMembers W P Begins k (n ∷ ms) places (pc + far + length (c ++ jump ∷ rest))) (sym e1) (subst (SkipsMembers W P Begins (pc + (far + length c + 1)) (n ∷ ms) places) e3 later))

    node_skips : IsWellFormed W → (pc w : ℕ) (x : Option Node) → slice_get W w ≡ x → Placed P Begins pc (skip_node K w x) → SkipsAt pc w (pc + length (skip_node K w x))
    node_skips formed pc w None e h = absurd h.0
    node_skips formed pc w (Some NullNode) e h = subst (SkipsAt pc w) (let z : pc ≡ pc + 0 = omega arith in z) (k_plain (ap is_union e) (k_null e))
    node_skips formed pc w (Some BooleanNode) e h = k_plain (ap is_union e) (k_boolean e h.0)
    node_skips formed pc w (Some IntNode) e h = k_plain (ap is_union e) (k_int e h.0)
    node_skips formed pc w (Some LongNode) e h = k_plain (ap is_union e) (k_long e h.0)
    node_skips formed pc w (Some BytesNode) e h = k_plain (ap is_union e) (k_bytes e h.0)
    node_skips formed pc w (Some TextNode) e h = k_plain (ap is_union e) (k_text e h.0)
    node_skips formed pc w (Some (FixedNode name size)) e h = k_plain (ap is_union e) (k_fixed name size e h.0)
    node_skips formed pc w (Some (EnumNode name symbols default)) e h = k_plain (ap is_union e) (k_enum name symbols default e h.0)
    node_skips formed pc w (Some (ArrayNode item)) e h =
        let body = K item in
        let loop = loop_placed P Begins (pc + 1) op.SkipNext body h.1 in
        let q = pc + 1 + 1 + length body in
        let z : q + 1 ≡ pc + length (Op op.SkipBlocks ∷ looped op.SkipNext body) = omega (arith, loop_length op.SkipNext body) in
        subst (SkipsAt pc w) z (k_plain (ap is_union e) (k_array item q e h.0 loop.0 (all (pc + 1 + 1) item loop.1) loop.2))
    node_skips formed pc w (Some (MapNode value)) e h =
        let body = K value in
        let keyed = Op op.SkipText ∷ body in
        let loop = loop_placed P Begins (pc + 1) op.SkipNext keyed h.1 in
        let q = pc + 1 + 1 + length keyed in
        let z : q + 1 ≡ pc + length (Op op.SkipBlocks ∷ looped op.SkipNext keyed) = omega (arith, loop_length op.SkipNext keyed) in
        let y : pc + 1 + 1 + 1 + length body ≡ q = omega arith in
        subst (SkipsAt pc w) z (k_plain (ap is_union e) (k_map value q e h.0 loop.0 loop.1.0 (subst (SkipsAt (pc + 1 + 1 + 1) value) y (all (pc + 1 + 1 + 1) value loop.1.1)) loop.2))
    node_skips formed pc w (Some (UnionNode members)) e h =
        let z : pc + 1 + length (one_of (map K members)) ≡ pc + length (branched (map K members)) = omega arith in
        subst (SkipsAt pc w) z (k_union members (map (λ far. pc + far) (begins 1 (map K members))) h.0.0 e h.0.1 h.0.2 (members_skip w pc 1 members (formed.each w (UnionNode members) e).0 h.1))
    node_skips formed pc w (Some (RecordNode name fs)) e h = k_plain (ap is_union e) (k_record name fs h.0.0 e h.0.2 h.0.1)

  pub within_skips : IsWellFormed W → (n : ℕ) → SkipsAll (skip_within W n)
  unfolding skip_within
  within_skips formed zero pc w h = absurd h.0
  within_skips formed (suc n) pc w h = node_skips (skip_within W n) (within_skips formed n) formed pc w (slice_get W w) refl h
