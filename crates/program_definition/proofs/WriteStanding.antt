-- Where X's statements are placed, the program has X's code.
use Rattle.std.proofs.Common.{◌≡◌, ℕ, zero, suc, ◌+◌, ◌⊎◌, inl, inr, Bool, true, false, List, [], ◌∷◌, ◌++◌, length, map, Option, Some, None, refl, sym, ap, ◌∙◌, subst, arith, length-append}
use Rattle.std.specs.Prelude.{slice_get, if◌then◌else◌}
use Rattle.std.specs.List.{AllByRecursion}
use Rattle.spec_avro.specs.Node.{Node, Names, FieldNode, NullNode, BooleanNode, IntNode, LongNode, BytesNode, TextNode, FixedNode, EnumNode, ArrayNode, MapNode, UnionNode, RecordNode}
use Rattle.spec_avro.specs.WellFormed.{IsMember, IsWellFormed, is_union}
use Rattle.spec_avro.specs.declared.mismatch.MismatchKind.TheVariants as kinds
use Rattle.spec_avro.specs.declared.place.Destination.{Destination}
use Rattle.spec_avro.specs.declared.place.Destination.TheVariants.{Straight, IntoMember, Nowhere, Unmatched}
use Rattle.spec_avro.specs.Matching.{place}
use Rattle.spec_avro.specs.Options.{given}
use Rattle.spec_avro.specs.Resolution.{lacking, symbol_for}
use Rattle.spec_machine.specs.declared.entry.Entry.{Entry}
use Rattle.spec_machine.specs.declared.entry.Entry.TheVariants as entries
use Rattle.spec_machine.specs.declared.instr.Instr.TheVariants as op
use Rattle.spec_machine.specs.Program.{Program}
use Rattle.spec_machine.specs.Statements.{Section, Statement, Op, BytesText, Ahead, Lacks, To, begins, branched, looped, miss, one_of}
use Rattle.spec_machine.specs.Skipping.{K}
use Rattle.spec_machine.specs.Writing.{is_text, placed_node, record_code, straight_node, target, write_node, write_within}
use Rattle.program_definition.specs.SkipStands.{Skips}
use Rattle.program_definition.specs.Stands.{AreEntries, IsEntry, Writes, WritesPlain, WritesMembers, Straights, x_plain, x_union, x_into, x_nowhere, x_unmatched, x_straight, s_null, s_boolean, s_int, s_long, s_bytes, s_bytes_text, s_text, s_fixed, s_enum, s_array, s_map, s_lacking, s_record, x_no_member, x_last, x_member}
use Rattle.program_definition.proofs.Placed.{AreTargets, IsTarget, Placed, placed_front, placed_back}
use Rattle.program_definition.proofs.SkipStanding.{loop_length, loop_placed, within_skips}

text_is : (y : Option Node) → is_text y ≡ true → y ≡ Some TextNode
text_is (Some TextNode) h = refl
text_is _ h = absurd cc

module _ (W R : List Node) (P : Program) (Begins : Section → ℕ → Type 0) where
  abbrev WritesAt : ℕ → ℕ → ℕ → ℕ → Type 0
  WritesAt pc w r q = Writes W R P Begins pc w r q

  abbrev StraightsAt : ℕ → ℕ → ℕ → ℕ → Type 0
  StraightsAt pc w r q = Straights W R P Begins pc w r q

  abbrev PlainAt : ℕ → ℕ → ℕ → ℕ → Type 0
  PlainAt pc w r q = WritesPlain W R P Begins pc w r q

  abbrev Here : ℕ → List Statement → Type 0
  Here pc ls = Placed P Begins pc ls

  plain_writes : (pc w r q : ℕ) → is_union (slice_get W w) ≡ false → WritesAt pc w r q → PlainAt pc w r q
  plain_writes pc w r q apart (x_plain n s) = s
  plain_writes pc w r q apart (x_union members places t is at jumps s) = absurd (let two : true ≡ false = sym (ap is_union is) ∙ apart in let no : ⊥ = cc in no)

  -- wherever the statements are placed, X(w, r) is there, and ends after as many addresses
  abbrev pub WritesAll : (ℕ → ℕ → List Statement) → Type 0
  WritesAll X = (pc w r : ℕ) → Here pc (X w r) → WritesAt pc w r (pc + length (X w r))

  module _ (formed : IsWellFormed W) (X : ℕ → ℕ → List Statement) (all : WritesAll X) where
    members_write : (own pc far r : ℕ) (ms : List ℕ) → AllByRecursion (IsMember W own) ms → Here (pc + far) (one_of (map (λ m. X m r) ms)) → WritesMembers W R P Begins (pc + far) ms r (map (λ far. pc + far) (begins far (map (λ m. X m r) ms))) (pc + far + length (one_of (map (λ m. X m r) ms)))
    members_write own pc far r [] are h = subst (WritesMembers W R P Begins (pc + far) [] r []) (let e : pc + far ≡ pc + far + 0 = omega arith in e) x_no_member
    members_write own pc far r (m ∷ []) are h = x_last are.0.no_union (plain_writes (pc + far) m r _ are.0.no_union (all (pc + far) m r h))
    members_write own pc far r (m ∷ n ∷ ms) are h =
        let c = X m r in
        let rest = one_of (map (λ m. X m r) (n ∷ ms)) in
        let q = pc + far + length c in
        let jump = Ahead op.Jump (length rest + 1) in
        let front = placed_front P Begins (pc + far) c (jump ∷ rest) h in
        let back = placed_back P Begins (pc + far) c (jump ∷ rest) h in
        let e1 : q + 1 ≡ pc + (far + length c + 1) = omega arith in
        let e2 : q + (length rest + 1) ≡ pc + far + length (c ++ jump ∷ rest) = omega (arith, length-append c (jump ∷ rest)) in
        let e3 : pc + (far + length c + 1) + length rest ≡ pc + far + length (c ++ jump ∷ rest) = omega (arith, length-append c (jump ∷ rest)) in
        let later = members_write own pc (far + length c + 1) r (n ∷ ms) are.1 (subst (λ k. Here k rest) e1 back.1) in
        let places = map (λ far. pc + far) (begins (far + length c + 1) (map (λ m. X m r) (n ∷ ms))) in
        x_member q are.0.no_union (plain_writes (pc + far) m r q are.0.no_union (all (pc + far) m r front)) (back.0 ∙ ap (λ a. Some (op.Jump a)) e2)
        (subst (λ k. WritesMembers W R P Begins k (n ∷ ms) r places (pc + far + length (c ++ jump ∷ rest))) (sym e1) (subst (WritesMembers W R P Begins (pc + (far + length c + 1)) (n ∷ ms) r places) e3 later))

    array_writes : (pc w r item : ℕ) → slice_get W w ≡ Some (ArrayNode item) → (y : Option Node) → slice_get R r ≡ y → Here pc (straight_node W R X w r (Some (ArrayNode item)) y) → StraightsAt pc w r (pc + length (straight_node W R X w r (Some (ArrayNode item)) y))
    array_writes pc w r item e (Some (ArrayNode other)) at h =
        let body = X item other in
        let loop = loop_placed P Begins (pc + 1) op.Next body h.1 in
        let q = pc + 1 + 1 + length body in
        let z : q + 1 ≡ pc + length (Op op.Blocks ∷ looped op.Next body) = omega (arith, loop_length op.Next body) in
        subst (StraightsAt pc w r) z (s_array item other q e at h.0 loop.0 (all (pc + 1 + 1) item other loop.1) loop.2)
    array_writes pc w r item e _ at h = absurd h.0

    map_writes : (pc w r value : ℕ) → slice_get W w ≡ Some (MapNode value) → (y : Option Node) → slice_get R r ≡ y → Here pc (straight_node W R X w r (Some (MapNode value)) y) → StraightsAt pc w r (pc + length (straight_node W R X w r (Some (MapNode value)) y))
    map_writes pc w r value e (Some (MapNode other)) at h =
        let body = X value other in
        let keyed = Op op.Text ∷ body in
        let loop = loop_placed P Begins (pc + 1) op.Next keyed h.1 in
        let q = pc + 1 + 1 + length keyed in
        let z : q + 1 ≡ pc + length (Op op.Blocks ∷ looped op.Next keyed) = omega (arith, loop_length op.Next keyed) in
        let y : pc + 1 + 1 + 1 + length body ≡ q = omega arith in
        subst (StraightsAt pc w r) z (s_map value other q e at h.0 loop.0 loop.1.0 (subst (WritesAt (pc + 1 + 1 + 1) value other) y (all (pc + 1 + 1 + 1) value other loop.1.1)) loop.2)
    map_writes pc w r value e _ at h = absurd h.0

    record_writes : (pc w r : ℕ) (names : Names) (fs : List FieldNode) → slice_get W w ≡ Some (RecordNode names fs) → (y : Option Node) → slice_get R r ≡ y → Here pc (straight_node W R X w r (Some (RecordNode names fs)) y) → StraightsAt pc w r (pc + length (straight_node W R X w r (Some (RecordNode names fs)) y))
    record_writes pc w r names fs e (Some (RecordNode others gs)) at h = go (lacking fs gs) refl h
      where
        go : (o : Option FieldNode) → lacking fs gs ≡ o → Here pc (record_code W R w r o) → StraightsAt pc w r (pc + length (record_code W R w r o))
        go None l h = s_record names others fs gs h.0.0 e at l h.0.2 h.0.1
        go (Some g) l h = s_lacking names others fs gs g h.0.0 e at l h.0.1 h.0.2 (subst (Skips W P Begins (pc + 1) w) (let z : pc + 1 + length (K W w) ≡ pc + length (record_code W R w r (Some g)) = omega arith in z) (within_skips W P Begins formed (suc (length W)) (pc + 1) w h.1))
    record_writes pc w r names fs e _ at h = absurd h.0

    bytes_write : (pc w r : ℕ) → slice_get W w ≡ Some BytesNode → (y : Option Node) → slice_get R r ≡ y → Here pc ((if is_text y then BytesText (miss kinds.BytesNotText w r) else Op op.Bytes) ∷ []) → StraightsAt pc w r (pc + 1)
    bytes_write pc w r e y at h = by_text y at (is_text y) refl h
      where
        by_text : (y : Option Node) → slice_get R r ≡ y → (b : Bool) → is_text y ≡ b → Here pc ((if b then BytesText (miss kinds.BytesNotText w r) else Op op.Bytes) ∷ []) → StraightsAt pc w r (pc + 1)
        by_text y at true is h = s_bytes_text h.0.0 e (at ∙ text_is y is) h.0.1 h.0.2
        by_text y at false is h = s_bytes e (ap is_text at ∙ is) h.0

    -- entries that say what targets are say what the symbols become
    entries_are : (w r : ℕ) (reader : Option Node) (symbols : List (List ℕ)) (es : List Entry) → AreTargets P es (map (target w r reader) symbols) → AreEntries P w r reader symbols es
    entries_are w r reader [] [] h = tt
    entries_are w r reader (s ∷ symbols) (entry ∷ es) h = (one_entry (symbol_for reader s) entry h.0, entries_are w r reader symbols es h.1)
      where
        one_entry : (o : Option ℕ) (entry : Entry) → IsTarget P entry (given o (Lacks (miss kinds.NoSymbol w r)) To) → IsEntry P w r o entry
        one_entry (Some n) (entries.Position m) h = ap entries.Position h
        one_entry None (entries.Miss m) h = (m, refl, h)
        one_entry (Some n) (entries.Miss m) h = absurd h
        one_entry None (entries.Position m) h = absurd h
    entries_are w r reader [] (entry ∷ es) h = absurd h
    entries_are w r reader (s ∷ symbols) [] h = absurd h

    straight_writes : (pc w r : ℕ) (x : Option Node) → slice_get W w ≡ x → Here pc (straight_node W R X w r x (slice_get R r)) → StraightsAt pc w r (pc + length (straight_node W R X w r x (slice_get R r)))
    straight_writes pc w r None e h = absurd h.0
    straight_writes pc w r (Some NullNode) e h = subst (StraightsAt pc w r) (let z : pc ≡ pc + 0 = omega arith in z) (s_null e)
    straight_writes pc w r (Some BooleanNode) e h = s_boolean e h.0
    straight_writes pc w r (Some IntNode) e h = s_int e h.0
    straight_writes pc w r (Some LongNode) e h = s_long e h.0
    straight_writes pc w r (Some BytesNode) e h = bytes_write pc w r e (slice_get R r) refl h
    straight_writes pc w r (Some TextNode) e h = s_text e h.0
    straight_writes pc w r (Some (FixedNode name size)) e h = s_fixed name size e h.0
    straight_writes pc w r (Some (EnumNode name symbols default)) e h = s_enum name symbols default h.0.0 h.0.1 e h.0.2 h.0.3 (entries_are w r (slice_get R r) symbols h.0.1 h.0.4)
    straight_writes pc w r (Some (ArrayNode item)) e h = array_writes pc w r item e (slice_get R r) refl h
    straight_writes pc w r (Some (MapNode value)) e h = map_writes pc w r value e (slice_get R r) refl h
    straight_writes pc w r (Some (UnionNode members)) e h = absurd h.0
    straight_writes pc w r (Some (RecordNode name fs)) e h = record_writes pc w r name fs e (slice_get R r) refl h

    placed_writes : (pc w r : ℕ) (p : Destination) → place W R w r ≡ p → Here pc (placed_node W R X w r p) → PlainAt pc w r (pc + length (placed_node W R X w r p))
    placed_writes pc w r Straight is h = x_straight is (straight_writes pc w r (slice_get W w) refl h)
    placed_writes pc w r (IntoMember j m) is h =
        let z : pc + 1 + length (straight_node W R X w m (slice_get W w) (slice_get R m)) ≡ pc + length (placed_node W R X w r (IntoMember j m)) = omega arith in
        subst (PlainAt pc w r) z (x_into j m h.0.0 is h.0.1 h.0.2 (straight_writes (pc + 1) w m (slice_get W w) refl h.1))
    placed_writes pc w r Nowhere is h =
        let z : pc + 1 + length (K W w) ≡ pc + length (placed_node W R X w r Nowhere) = omega arith in
        subst (PlainAt pc w r) z (x_nowhere h.0.0 is h.0.1 h.0.2 (within_skips W P Begins formed (suc (length W)) (pc + 1) w h.1))
    placed_writes pc w r Unmatched is h =
        let z : pc + 1 + length (K W w) ≡ pc + length (placed_node W R X w r Unmatched) = omega arith in
        subst (PlainAt pc w r) z (x_unmatched h.0.0 is h.0.1 h.0.2 (within_skips W P Begins formed (suc (length W)) (pc + 1) w h.1))

    abbrev IsPlain : ℕ → ℕ → Option Node → Type 0
    IsPlain w r x = (is_union x ≡ false) × (write_node W R X w r x ≡ placed_node W R X w r (place W R w r))

    plain_or_union : (w r : ℕ) (x : Option Node) → IsPlain w r x ⊎ ((members : List ℕ) × (x ≡ Some (UnionNode members)))
    plain_or_union w r None = inl (refl, refl)
    plain_or_union w r (Some NullNode) = inl (refl, refl)
    plain_or_union w r (Some BooleanNode) = inl (refl, refl)
    plain_or_union w r (Some IntNode) = inl (refl, refl)
    plain_or_union w r (Some LongNode) = inl (refl, refl)
    plain_or_union w r (Some BytesNode) = inl (refl, refl)
    plain_or_union w r (Some TextNode) = inl (refl, refl)
    plain_or_union w r (Some (FixedNode name size)) = inl (refl, refl)
    plain_or_union w r (Some (EnumNode name symbols default)) = inl (refl, refl)
    plain_or_union w r (Some (ArrayNode item)) = inl (refl, refl)
    plain_or_union w r (Some (MapNode value)) = inl (refl, refl)
    plain_or_union w r (Some (UnionNode members)) = inr (members, refl)
    plain_or_union w r (Some (RecordNode name fs)) = inl (refl, refl)

    union_writes : (pc w r : ℕ) (members : List ℕ) → slice_get W w ≡ Some (UnionNode members) → Here pc (branched (map (λ m. X m r) members)) → WritesAt pc w r (pc + length (branched (map (λ m. X m r) members)))
    union_writes pc w r members e h =
        let z : pc + 1 + length (one_of (map (λ m. X m r) members)) ≡ pc + length (branched (map (λ m. X m r) members)) = omega arith in
        subst (WritesAt pc w r) z (x_union members (map (λ far. pc + far) (begins 1 (map (λ m. X m r) members))) h.0.0 e h.0.1 h.0.2 (members_write w pc 1 r members (formed.each w (UnionNode members) e).0 h.1))

    node_writes : (pc w r : ℕ) (x : Option Node) → slice_get W w ≡ x → Here pc (write_node W R X w r x) → WritesAt pc w r (pc + length (write_node W R X w r x))
    node_writes pc w r x e h = elim (plain_or_union w r x) [
      | inl plain ↦ x_plain (ap is_union e ∙ plain.0) (subst (λ ls. PlainAt pc w r (pc + length ls)) (sym plain.1) (placed_writes pc w r (place W R w r) refl (subst (Here pc) plain.1 h)))
      | inr union ↦ subst (λ n. WritesAt pc w r (pc + length (write_node W R X w r n))) (sym union.1) (union_writes pc w r union.0 (e ∙ union.1) (subst (λ n. Here pc (write_node W R X w r n)) union.1 h))
    ]

  pub within_writes : IsWellFormed W → (n : ℕ) → WritesAll (write_within W R n)
  unfolding write_within
  within_writes formed zero pc w r h = absurd h.0
  within_writes formed (suc n) pc w r h = node_writes formed (write_within W R n) (within_writes formed n) pc w r (slice_get W w) refl h
