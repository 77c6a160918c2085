-- Code to skip a node passes over what decoding it gives, at every depth.
use Rattle.std.proofs.Common.{◌≡◌, ℕ, zero, suc, ◌+◌, ◌*◌, ◌-◌, ◌≤◌, ◌<◌, false, List, ◌∷◌, length, Ok, Option, Some, refl, sym, ap, ◌∙◌, subst, arith, slice_get}
use Rattle.std.specs.Prelude.{slice_index_or}
use Rattle.spec_avro.specs.declared.meter.Meter.{Meter}
use Rattle.spec_avro.specs.declared.malformed.MalformedKind.TheVariants.{BadBranch, BadEnum}
use Rattle.avro_bytes.specs.Blob.{content_at, fixed_at}
use Rattle.spec_decoding.specs.BooleanDecoding.{boolean_at}
use Rattle.spec_decoding.specs.Decoding.{Complete, Failed, ◌>>=◌}
use Rattle.avro_bytes.specs.Decoding.{map_decoding}
use Rattle.spec_avro.specs.Defect.{Need}
use Rattle.spec_decoding.specs.Opening.{opened_record}
use Rattle.spec_avro.specs.Number.{int_limit, long_limit}
use Rattle.spec_decoding.specs.NumberDecoding.{number_at}
use Rattle.spec_decoding.specs.PositionDecoding.{position_at}
use Rattle.avro_bytes.specs.Text.{text_at}
use Rattle.avro_bytes.specs.Laws.Meters.{same_meter, was_opened}
use Rattle.avro_bytes.specs.Laws.Numbers.{number_some}
use Rattle.avro_bytes.specs.Laws.Positions.{position_sound}
use Rattle.spec_avro.specs.Datum.{Datum, Data, NullDatum, BooleanDatum, IntDatum, LongDatum, BytesDatum, TextDatum, FixedDatum, EnumDatum, UnionDatum, more, no_more}
use Rattle.spec_avro.specs.Node.{Node, FieldNode, NullNode, BooleanNode, IntNode, LongNode, BytesNode, TextNode, FixedNode, EnumNode, ArrayNode, MapNode, RecordNode}
use Rattle.spec_avro.specs.WellFormed.{is_union}
use Rattle.avro_datum.specs.Decoding.{Decoder, array_of, closed_record, fields_at, kind_at, map_of, member_at, node_at, pair_at, plain_at, record_at, union_at}
use Rattle.avro_datum.specs.ItemDecoding.{Reader, blocks_at}
use Rattle.avro_datum.specs.Laws.Decoders.{Deeper}
use Rattle.avro_datum.specs.Laws.Kinds.{kind_is_plain, none_deeper, one_deeper}
use Rattle.spec_machine.specs.declared.instr.Instr.TheVariants as op
use Rattle.spec_machine.specs.declared.limits.TheConstants.{MOST_CALLS}
use Rattle.spec_machine.specs.Program.{Program}
use Rattle.spec_machine.specs.State.{Skip as SkipFrame, State, Store}
use Rattle.spec_machine.specs.Table.{next, pushed}
use Rattle.spec_machine.specs.Statements.{Section, Skip}
use Rattle.program_definition.specs.SkipStands.{SkipRoutine, Skips, SkipsFields, SkipsMembers, SkipsPlain, k_array, k_boolean, k_bytes, k_enum, k_field, k_fixed, k_int, k_last, k_long, k_map, k_member, k_no_field, k_no_member, k_null, k_plain, k_record, k_text, k_union}
use Rattle.program_correctness.proofs.Follow.{Comes, Follows, comes_on, cost, follows_row, follows_then, one_row, reads_then, row_then}
use Rattle.program_correctness.proofs.LookUps.{got, got_below}
use Rattle.program_correctness.proofs.Numbers.{lt_yes}
use Rattle.program_correctness.proofs.Opening.{record_opens}
use Rattle.program_correctness.proofs.Passing.{Passed, Passes, blocks_pass, boolean_passes, bytes_pass, enum_passes, fixed_passes, int_passes, long_passes, passes_map, passes_none, passes_so, passes_then, text_passes}
use Rattle.program_correctness.proofs.Plain.{between, meter, plain_row, row_of_instr}
use Rattle.program_correctness.proofs.Rooms.{HasRoom, one_frame}
use Rattle.program_correctness.proofs.SkipPlaces.{fields_forward, members_forward, members_placed, plain_forward, skips_forward}
use Rattle.program_correctness.proofs.Standing.{AllSkipped}
use Rattle.program_correctness.proofs.Stores.{opened}

-- a call, where few enough are open
pub call_row : (P : Program) (p : List ℕ) (left pc a at u : ℕ) (calls : List ℕ) (s : Store) → slice_get P.code pc ≡ Some (op.Call a) → HasRoom left calls s → plain_row P p (between pc at calls s u) ≡ Some (between a at ((pc + 1) ∷ calls) s u)
call_row P p left pc a at u calls s here room =
    row_of_instr P p (between pc at calls s u) (op.Call a) refl here ∙ rw (lt_yes (length calls) MOST_CALLS (omega (arith, room.few, room.shallow))) refl

module _ (W : List Node) (P : Program) (Begins : Section → ℕ → Type 0) (p : List ℕ) (routines : (w a : ℕ) → Begins (Skip w) a → SkipRoutine W P Begins a w) where
  abbrev L : ℕ
  L = length P.code

  abbrev Over : {A : Type 0} → ℕ → ℕ → ℕ → ℕ → Reader A → Type 0
  Over left k pc q reader = Passes P p L left k pc q reader

  -- ---- records

  fields_pass : (decoder : Decoder) (left : ℕ) → AllSkipped W P Begins p decoder left → {pc q : ℕ} {fields : List FieldNode} → SkipsFields W P Begins pc fields q → Over left (q - pc) pc q (fields_at decoder fields)
  unfolding fields_at
  fields_pass decoder left skips {pc = pc} k_no_field = passes_none P p L left (pc - pc) pc no_more
  fields_pass decoder left skips {pc = pc} {q = q} {fields = f ∷ fields} (k_field mid code others) =
      passes_then P p L left (mid - pc) (q - mid) (q - pc) pc mid q (decoder f.node) (λ d to after. fields_at decoder fields to after >>= λ ds end last. Complete (more d ds) end last) (omega (arith, skips_forward W P Begins code, fields_forward W P Begins others)) (skips pc f.node mid code)
      (λ d. passes_then P p L left (q - mid) 0 (q - mid) mid q q (fields_at decoder fields) (λ ds end last. Complete (more d ds) end last) (omega arith) (fields_pass decoder left skips others) (λ ds. passes_none P p L left 0 q (more d ds)))

  record_passes : (decoder : Decoder) (left : ℕ) → Deeper (AllSkipped W P Begins p decoder) left → (pc w a : ℕ) → slice_get P.code pc ≡ Some (op.Call a) → (k : SkipRoutine W P Begins a w) → Over left 1 pc (pc + 1) (record_at decoder k.fields)
  record_passes decoder left deeper pc w a here k at u calls s room =
      row_then P p L 0 1 (between pc at calls s u) c0 (record_at decoder k.fields at (meter s u)) Q (call_row P p left pc a at u calls s here room)
      (record_opens P p L (k.q + 1 - a) SkipFrame c0 (λ m. fields_at decoder k.fields at m >>= closed_record (length s.frames)) Q (row_of_instr P p c0 op.Enter refl k.opens) (omega (arith, got_below P.code (k.q + 1) op.Return k.returns)) (λ m o. inside m o))
      (omega arith)
    where
      calls1 : List ℕ
      calls1 = (pc + 1) ∷ calls

      s1 : Store
      s1 = opened SkipFrame s

      c0 : State
      c0 = between a at calls1 s u

      Q : Datum → ℕ → Meter → State → Type 0
      Q = Passed P p L (pc + 1) calls s u

      leaves : (now : ℕ) → u ≤ now → (ds : Data) (to : ℕ) (n : Meter) (d : State) → Passed P p L k.q calls1 s1 now ds to n d → Follows P p L 2 d (closed_record (length s.frames) ds to n) Q
      leaves now le ds to n d h =
          let c1 = between k.q to calls1 s1 n.units in
          let c2 = between (k.q + 1) to calls1 s n.units in
          let c3 = between (pc + 1) to calls s n.units in
          let row1 = one_row P p L 1 c1 c2 (row_of_instr P p c1 op.Leave refl k.closes) (omega arith) in
          let row2 = one_row P p L 1 c2 c3 (row_of_instr P p c2 op.Return refl k.returns) (omega arith) in
          (c3, subst (λ (x : State). Comes P p L 2 x c3) (sym h.0) (comes_on P p L 1 1 2 c1 c2 c3 row1 row2 (omega arith)), (refl, refl, omega (arith, le, h.2)))

      inside : (m : Meter) → opened_record at (meter s u) ≡ Ok m → Follows P p L (k.q + 1 - a) (next at (pushed SkipFrame m c0)) (fields_at decoder k.fields at m >>= closed_record (length s.frames)) Q
      inside m opened_is =
          let o = was_opened at (meter s u) m opened_is in
          let d = one_frame left calls s room o.shallow in
          let m_is : m ≡ meter s1 m.units = same_meter m (meter s1 m.units) (o.deeper ∙ omega arith) refl in
          let up = fields_forward W P Begins k.body in
          let goes = fields_pass decoder _ (deeper _ d.room) k.body at m.units calls1 s1 (record { room = d.inside; shallow = d.shallow; few = omega (arith, room.few) }) in
          follows_then P p L (k.q - (a + 1)) 2 (k.q + 1 - a) (between (a + 1) at calls1 s1 m.units) (fields_at decoder k.fields at m) (closed_record (length s.frames)) (Passed P p L k.q calls1 s1 m.units) Q
          (subst (λ (x : Meter). Follows P p L (k.q - (a + 1)) (between (a + 1) at calls1 s1 m.units) (fields_at decoder k.fields at x) (Passed P p L k.q calls1 s1 m.units)) (sym m_is) goes)
          (λ ds to n d h. leaves m.units (omega (arith, o.counted)) ds to n d h)
          (omega (arith, up))

  -- ---- each kind

  module _ (decoder : Decoder) (left : ℕ) (deeper : Deeper (AllSkipped W P Begins p decoder) left) where
    abbrev Plain : ℕ → Reader Datum
    Plain w at m = plain_at decoder p (slice_get W w) at m

    -- at a node that is known
    at_node : (j k pc q w : ℕ) (node : Node) → slice_get W w ≡ Some node → j ≤ k → Over left j pc q (λ at m. plain_at decoder p (Some node) at m) → Over left k pc q (Plain w)
    at_node j k pc q w node e le runs = subst (λ (o : Option Node). Over left k pc q (λ at m. plain_at decoder p o at m)) (sym e) (passes_so P p L left j k pc q (λ at m. plain_at decoder p (Some node) at m) le runs)

    plain_passes : (pc w q : ℕ) → SkipsPlain W P Begins pc w q → Over left (q - pc) pc q (Plain w)
    plain_passes pc w _ (k_null n) = at_node 0 (pc - pc) pc pc w NullNode n (omega arith) (passes_none P p L left 0 pc NullDatum)
    plain_passes pc w _ (k_boolean n here) = at_node 1 (pc + 1 - pc) pc (pc + 1) w BooleanNode n (omega arith) (passes_map P p L left 1 pc (pc + 1) (boolean_at p) BooleanDatum (boolean_passes P p L left pc here))
    plain_passes pc w _ (k_int n here) = at_node 1 (pc + 1 - pc) pc (pc + 1) w IntNode n (omega arith) (passes_map P p L left 1 pc (pc + 1) (number_at int_limit p) IntDatum (int_passes P p L left pc here))
    plain_passes pc w _ (k_long n here) = at_node 1 (pc + 1 - pc) pc (pc + 1) w LongNode n (omega arith) (passes_map P p L left 1 pc (pc + 1) (number_at long_limit p) LongDatum (long_passes P p L left pc here))
    plain_passes pc w _ (k_bytes n here) = at_node 1 (pc + 1 - pc) pc (pc + 1) w BytesNode n (omega arith) (passes_map P p L left 1 pc (pc + 1) (content_at p) BytesDatum (bytes_pass P p L left pc here))
    plain_passes pc w _ (k_text n here) = at_node 1 (pc + 1 - pc) pc (pc + 1) w TextNode n (omega arith) (passes_map P p L left 1 pc (pc + 1) (text_at p) TextDatum (text_passes P p L left pc here))
    plain_passes pc w _ (k_fixed names size n here) = at_node 1 (pc + 1 - pc) pc (pc + 1) w (FixedNode names size) n (omega arith) (passes_map P p L left 1 pc (pc + 1) (fixed_at size p) FixedDatum (fixed_passes P p L left pc size here))
    plain_passes pc w _ (k_enum names symbols default n here) = at_node 1 (pc + 1 - pc) pc (pc + 1) w (EnumNode names symbols default) n (omega arith) (passes_map P p L left 1 pc (pc + 1) (position_at BadEnum (length symbols) p) EnumDatum (enum_passes P p L left pc (length symbols) here))
    plain_passes pc w _ (k_array item q n here loops body back) =
        let up = skips_forward W P Begins body in
        at_node 1 (q + 1 - pc) pc (q + 1) w (ArrayNode item) n (omega (arith, up))
        (passes_map P p L left 1 pc (q + 1) (blocks_at (decoder item) p) array_of
        (blocks_pass P p L left (q - (pc + 1 + 1)) pc q (decoder item) here loops back (omega (arith, up, got_below P.code q (op.Jump (pc + 1)) back)) (λ less e. deeper less e (pc + 1 + 1) item q body)))
    plain_passes pc w _ (k_map value q n here loops keys body back) =
        let up = skips_forward W P Begins body in
        at_node 1 (q + 1 - pc) pc (q + 1) w (MapNode value) n (omega (arith, up))
        (passes_map P p L left 1 pc (q + 1) (blocks_at (pair_at decoder p value) p) map_of
        (blocks_pass P p L left (1 + (q - (pc + 1 + 1 + 1))) pc q (pair_at decoder p value) here loops back (omega (arith, up, got_below P.code q (op.Jump (pc + 1)) back))
        (λ less e. passes_then P p L less 1 (q - (pc + 1 + 1 + 1)) (1 + (q - (pc + 1 + 1 + 1))) (pc + 1 + 1) (pc + 1 + 1 + 1) q (text_at p) (λ key to after. map_decoding (λ d. (key, d)) (decoder value to after)) (omega arith) (text_passes P p L less (pc + 1 + 1) keys)
        (λ key. passes_map P p L less (q - (pc + 1 + 1 + 1)) (pc + 1 + 1 + 1) q (decoder value) (λ d. (key, d)) (deeper less e (pc + 1 + 1 + 1) value q body)))))
    plain_passes pc w _ (k_record names fields a n begins here) =
        let k = routines w a begins in
        at_node 1 (pc + 1 - pc) pc (pc + 1) w (RecordNode k.names k.fields) k.is (omega arith) (record_passes decoder left deeper pc w a here k)

    -- ---- unions

    -- a jump after what was passed over
    jumps_on : (j k pc q e : ℕ) (reader : Reader Datum) → slice_get P.code q ≡ Some (op.Jump e) → j + 1 ≤ k → Over left j pc q reader → Over left k pc e reader
    jumps_on j k pc q e reader back le runs at u calls s room =
        follows_row P p L j k (between pc at calls s u) (reader at (meter s u)) (Passed P p L q calls s u) (Passed P p L e calls s u) le (runs at u calls s room)
        (λ d to m c h. record {
          new = between e to calls s m.units;
          row_is = ap (plain_row P p) h.0 ∙ row_of_instr P p (between q to calls s m.units) (op.Jump e) refl back;
          is_such = (refl, h.1, h.2);
          pays = subst (λ (x : State). 1 + cost P p L x ≤ 1 + (to + L * m.units)) (sym h.0) (omega arith);
        })

    -- the branch at a position, from where its code begins
    members_pass : (pc : ℕ) (members places : List ℕ) (e : ℕ) → SkipsMembers W P Begins pc members places e → (n : ℕ) → n < length members → Over left (e - pc) (slice_index_or places n 0) e (λ at m. member_at Plain (slice_get members n) at m)
    members_pass pc _ _ _ k_no_member n lt = absurd (omega arith)
    members_pass pc _ _ e (k_last {member = member} u code) zero lt = plain_passes pc member e code
    members_pass pc _ _ e (k_last u code) (suc n) lt = absurd (omega arith)
    members_pass pc _ _ e (k_member {member = member} q u code back others) zero lt =
        jumps_on (q - pc) (e - pc) pc q e (Plain member) back (omega (arith, members_forward W P Begins others, plain_forward W P Begins code)) (plain_passes pc member q code)
    members_pass pc _ _ e (k_member {other = other} {members = members} {places = places} q u code back others) (suc n) lt =
        passes_so P p L left (e - (q + 1)) (e - pc) (slice_index_or places n 0) e (λ at m. member_at Plain (slice_get (other ∷ members) n) at m) (omega (arith, plain_forward W P Begins code)) (members_pass (q + 1) (other ∷ members) places e others n (omega arith))

    union_passes : (pc q : ℕ) (members places : List ℕ) (t : ℕ) → slice_get P.code pc ≡ Some (op.Branch t) → slice_get P.jumps t ≡ Some places → SkipsMembers W P Begins (pc + 1) members places q → Over left (q - pc) pc q (λ at m. union_at Plain p members at m)
    union_passes pc q members places t here table code at u calls s room =
        reads_then P p L (q - pc) c0 (position_at BadBranch (length members) p at (meter s u)) (λ n to m. map_decoding (UnionDatum n) (member_at Plain (slice_get members n) to m)) branches (Passed P p L q calls s u)
        (row_of_instr P p c0 (op.Branch t) refl here ∙ rw (got P.jumps t _ places table, members_placed W P Begins code) refl)
        (λ n to m is.
        let b = position_sound BadBranch (length members) p at (meter s u) n to m is in
        let moves : at < to = omega (arith, b.0.end, number_some _ _ b.0.bytes b.0.spelled.1) in
        let up = members_forward W P Begins code in
        let units : m.units ≡ u = ap (λ (x : Meter). x.units) (sym b.1) in
        record {
          new = between (slice_index_or places n 0) to calls s u;
          row_is = refl;
          left = q - (pc + 1);
          follows = subst (λ (x : Meter). Follows P p L (q - (pc + 1)) (between (slice_index_or places n 0) to calls s u) (map_decoding (UnionDatum n) (member_at Plain (slice_get members n) to x)) (Passed P p L q calls s u)) b.1
              (passes_map P p L left (q - (pc + 1)) (slice_index_or places n 0) q (λ at m. member_at Plain (slice_get members n) at m) (UnionDatum n) (members_pass (pc + 1) members places q code n b.0.spelled.0) to u calls s room);
          pays = omega (arith, moves, up);
        })
      where
        c0 : State
        c0 = between pc at calls s u

        branches : ℕ → ℕ → Meter → Option State
        branches n to m = Some (between (slice_index_or places n 0) to calls s u)

    kind_passes : (pc w q : ℕ) → Skips W P Begins pc w q → Over left (q - pc) pc q (λ at m. kind_at decoder W p (slice_get W w) at m)
    kind_passes pc w q (k_plain n code) = λ at u calls s room. subst (λ g. Follows P p L (q - pc) (between pc at calls s u) g (Passed P p L q calls s u)) (sym (kind_is_plain decoder W p at (meter s u) (slice_get W w) n)) (plain_passes pc w q code at u calls s room)
    kind_passes pc w q (k_union members places t n here table code) = subst (λ (o : Option Node). Over left (q - pc) pc q (λ at m. kind_at decoder W p o at m)) (sym n) (union_passes pc q members places t here table code)

    -- a node that is no union
    pub no_union_passes : (pc w q : ℕ) → is_union (slice_get W w) ≡ false → Skips W P Begins pc w q → Passes P p (length P.code) left (q - pc) pc q (λ at m. plain_at decoder p (slice_get W w) at m)
    no_union_passes pc w q n code at u calls s room = subst (λ g. Follows P p L (q - pc) (between pc at calls s u) g (Passed P p L q calls s u)) (kind_is_plain decoder W p at (meter s u) (slice_get W w) n) (kind_passes pc w q code at u calls s room)

  -- at every depth
  pub all_skipped : (left : ℕ) → AllSkipped W P Begins p (node_at left W p) left
  unfolding node_at
  all_skipped zero pc w q code = kind_passes (λ node at m. Failed Need) 0 (none_deeper (AllSkipped W P Begins p (λ node at m. Failed Need))) pc w q code
  all_skipped (suc left) pc w q code = kind_passes (node_at left W p) (suc left) (one_deeper (AllSkipped W P Begins p (node_at left W p)) left (all_skipped left)) pc w q code
