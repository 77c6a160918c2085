-- The call of a record's routine: it opens the record, fills its slots, and joins them.
use Rattle.std.proofs.Common.{◌≡◌, ℕ, suc, ◌+◌, ◌-◌, ◌≤◌, List, ◌∷◌, length, Some, None, Ok, Err, refl, sym, ap, ◌∙◌, subst, arith, slice_get}
use Rattle.spec_avro.specs.declared.meter.Meter.{Meter}
use Rattle.spec_avro.specs.Blocks.{joined}
use Rattle.spec_decoding.specs.Decoding.{◌>>=◌ as ◌>>◌}
use Rattle.spec_decoding.specs.Opening.{opened_record}
use Rattle.avro_bytes.specs.Laws.Meters.{same_meter, was_opened}
use Rattle.spec_avro.specs.Datum.{Datum, Data, RecordDatum}
use Rattle.spec_avro.specs.Node.{Node, FieldNode}
use Rattle.spec_avro.specs.WellFormed.{HaveDistinctNames}
use Rattle.avro_datum.specs.Decoding.{Decoder, closed_record, fields_at, record_at}
use Rattle.spec_avro.specs.Writing.{written}
use Rattle.avro_datum.specs.Laws.Decoders.{Deeper}
use Rattle.spec_avro.specs.Partners.{routes}
use Rattle.spec_avro.specs.Resolution.{Resolved, ◌>>=◌, Slots, filled, no_slots, resolved_fields}
use Rattle.spec_machine.specs.declared.instr.Instr.TheVariants as op
use Rattle.spec_machine.specs.Lengths.{total_length}
use Rattle.spec_machine.specs.Program.{Program}
use Rattle.spec_machine.specs.State.{Frame, Rec, State, Store, add}
use Rattle.spec_machine.specs.Table.{next, pushed}
use Rattle.spec_machine.specs.Statements.{Section}
use Rattle.program_definition.specs.Stands.{Routine, Writes as CodeWrites}
use Rattle.program_correctness.proofs.Buffers.{joined_length, new_slots, new_slots_empty, new_slots_size, no_bytes}
use Rattle.program_correctness.proofs.Effects.{bytes_of}
use Rattle.program_correctness.proofs.Follow.{Comes, Follows, comes_on, follows_then, one_row, row_then}
use Rattle.program_correctness.proofs.Holding.{Holds, becomes_so, holds_so}
use Rattle.program_correctness.proofs.LookUps.{got_below}
use Rattle.program_correctness.proofs.Opening.{record_opens}
use Rattle.program_correctness.proofs.Plain.{between, meter, row_of_instr}
use Rattle.program_correctness.proofs.RecordDefaults.{defaults_forward, defaults_write}
use Rattle.program_correctness.proofs.RecordFields.{FieldsWritten, fields_forward, fields_write}
use Rattle.program_correctness.proofs.RecordSlots.{on_top, record_closed}
use Rattle.program_correctness.proofs.Rooms.{IsDeeper, one_frame}
use Rattle.program_correctness.proofs.Routes.{all_free, routes_apart, routes_of, routes_to_slots}
use Rattle.program_correctness.proofs.Skipping.{call_row}
use Rattle.program_correctness.proofs.Slots.{all_known, buffers, from_first, mixed, mixed_last, new_buffers}
use Rattle.program_correctness.proofs.Standing.{AllSkipped, AllWritten}
use Rattle.program_correctness.proofs.Stores.{opened, push, push_empty}
use Rattle.program_correctness.proofs.Writing.{Writes, Wrote}

-- what the slots hold in the end is the written record
record_bytes : (gs : List FieldNode) (j : ℕ) (res : Resolved Slots) → slice_get gs j ≡ None → ((res >>= λ slots. Ok (mixed j gs slots)) >>= λ c. Ok (joined c)) ≡ bytes_of (res >>= λ slots. Ok (RecordDatum (filled gs slots)))
unfolding written
record_bytes gs j (Ok slots) e = ap Ok (mixed_last j gs slots e)
record_bytes gs j (Err m) e = refl

module _ (W R : List Node) (P : Program) (Begins : Section → ℕ → Type 0) (p : List ℕ) (forward : (pc w r q : ℕ) → CodeWrites W R P Begins pc w r q → pc ≤ q) where
  abbrev L : ℕ
  L = length P.code

  pub call_writes : (decoder : Decoder) (left : ℕ) → Deeper (AllSkipped W P Begins p decoder) left → Deeper (AllWritten W R P Begins p decoder) left → (pc w r a : ℕ) → slice_get P.code pc ≡ Some (op.Call a) → (k : Routine W R P Begins a w r) → HaveDistinctNames k.fs → (effect : Datum → Resolved (List ℕ))
      → ((ds : Data) → bytes_of (resolved_fields W R (no_slots k.gs) (routes k.fs k.gs) ds >>= λ slots. Ok (RecordDatum (filled k.gs slots))) ≡ effect (RecordDatum ds)) → Writes P p (length P.code) left 1 pc (pc + 1) (record_at decoder k.fs) effect
  call_writes decoder left skips writes pc w r a here k distinct effect is at u calls s ready =
      row_then P p L 0 1 (between pc at calls s u) c0 (record_at decoder k.fs at (meter s u)) Q (call_row P p left pc a at u calls s here ready.has_room)
      (record_opens P p L (k.q + 1 - a) f0 c0 (λ m. fields_at decoder k.fs at m >> closed_record (length s.frames)) Q (row_of_instr P p c0 (op.Record (length k.gs)) refl k.opens) (omega (arith, got_below P.code (k.q + 1) op.Return k.returns)) (λ m o. inside m o))
      (omega arith)
    where
      calls1 : List ℕ
      calls1 = (pc + 1) ∷ calls

      f0 : Frame
      f0 = Rec None (new_slots (length k.gs))

      c0 : State
      c0 = between a at calls1 s u

      Q : Datum → ℕ → Meter → State → Type 0
      Q = Wrote P p L (pc + 1) calls s u effect

      few : length calls1 ≤ suc (length s.frames)
      few = omega (arith, ready.has_room.few)

      -- the defaults, and the end of the routine
      closes : (less : ℕ) → (deeper : IsDeeper left s less) → (skipped : AllSkipped W P Begins p decoder less) (written_so : AllWritten W R P Begins p decoder less) (now : ℕ) → u ≤ now → (ds : Data) (to : ℕ) (n : Meter) (d : State)
          → FieldsWritten W R P Begins p forward decoder left less skipped written_so k.gs calls1 s ready.fit deeper few k.fs k.m now (λ ds. resolved_fields W R (no_slots k.gs) (routes k.fs k.gs) ds) ds to n d → Follows P p L (k.q - k.m + 2) d (closed_record (length s.frames) ds to n) Q
      closes less deeper skipped written_so now le ds to n d h =
          let res = resolved_fields W R (no_slots k.gs) (routes k.fs k.gs) ds in
          let known = all_known W R k.fs k.gs ds res h.4 refl in
          let held = holds_so P.misses no_bytes total_length (Rec h.5) (new_slots (length k.gs)) _ (res >>= λ slots. Ok (mixed 0 k.gs slots)) s h.0 (from_first W R k.fs k.gs res known) h.6 in
          let z = defaults_write W R P Begins p k.fs k.gs left less calls1 s ready.fit deeper few k.defaults res known h.5 h.0 to n.units held in
          let on = on_top P p k.gs left less calls1 s ready.fit deeper few z.cur (res >>= λ slots. Ok (mixed z.last k.gs slots)) z.store z.held in
          let t1 = add (joined on.inner) (record z.store { frames = on.below }) in
          let c1 = between k.q to calls1 z.store n.units in
          let c2 = between (k.q + 1) to calls1 t1 n.units in
          let c3 = between (pc + 1) to calls t1 n.units in
          let row1 = row_of_instr P p c1 op.EndRecord refl k.closes ∙ record_closed c1 z.cur on.inner on.below on.is (on.current ∙ ready.current) in
          let row2 = row_of_instr P p c2 op.Return refl k.returns in
          let after = becomes_so P.misses _ (effect (RecordDatum ds)) s t1 (record_bytes k.gs z.last res z.done ∙ is ds) (on.closes joined (λ c _. omega (arith, joined_length c))) in
          let ends = comes_on P p L 1 1 2 c1 c2 c3 (one_row P p L 1 c1 c2 row1 (omega arith)) (one_row P p L 1 c2 c3 row2 (omega arith)) (omega arith) in
          (c3, comes_on P p L (k.q - k.m) 2 (k.q - k.m + 2) d c1 c3 (subst (λ (x : State). Comes P p L (k.q - k.m) x c1) (sym h.1) z.comes) ends (omega arith), (t1, refl, refl, omega (arith, le, h.3), after))

      inside : (m : Meter) → opened_record at (meter s u) ≡ Ok m → Follows P p L (k.q + 1 - a) (next at (pushed f0 m c0)) (fields_at decoder k.fs at m >> closed_record (length s.frames)) Q
      inside m opened_is =
          let o = was_opened at (meter s u) m opened_is in
          let deeper = one_frame left calls s ready.has_room o.shallow in
          let skipped = skips _ deeper.room in
          let written_so = writes _ deeper.room in
          let s1 : Store = opened f0 s in
          let c1 = between (a + 1) at calls1 s1 m.units in
          let held0 : Holds P.misses no_bytes total_length (Rec None) (new_slots (length k.gs)) (Ok (buffers (no_slots k.gs))) s s1 = (ap no_bytes (new_buffers k.gs), sym (push_empty f0 s ready.fit (new_slots_size (length k.gs)) (ap (Rec None) (new_slots_empty (length k.gs)))) ∙ ap (λ (l : List (List ℕ)). push (Rec None l) s) (sym (new_buffers k.gs))) in
          let m_is : m ≡ record { depth = suc (length s.frames); units = m.units } = same_meter m (record { depth = suc (length s.frames); units = m.units }) (o.deeper ∙ omega arith) refl in
          let up1 = fields_forward W R P Begins p forward k.fields in
          let up2 = defaults_forward W R P Begins p k.fs k.gs k.defaults in
          let go = routes_to_slots k.fs k.gs in
          let Done = FieldsWritten W R P Begins p forward decoder left _ skipped written_so k.gs calls1 s ready.fit deeper few k.fs k.m m.units (λ ds. resolved_fields W R (no_slots k.gs) (routes k.fs k.gs) ds) in
          let fields = fields_write W R P Begins p forward decoder left _ skipped written_so k.gs calls1 s ready.fit deeper few k.fields k.fs (routes_of k.fs k.gs) go (routes_apart k.fs k.gs distinct) None (Ok (no_slots k.gs)) s1 at m.units held0 (all_free k.gs (routes k.fs k.gs) go) in
          follows_then P p L (k.m - (a + 1)) (k.q - k.m + 2) (k.q + 1 - a) c1 (fields_at decoder k.fs at m) (closed_record (length s.frames)) Done Q
          (subst (λ (x : Meter). Follows P p L (k.m - (a + 1)) c1 (fields_at decoder k.fs at x) Done) (sym m_is) fields)
          (λ ds to n d h. closes _ deeper skipped written_so m.units (omega (arith, o.counted)) ds to n d h)
          (omega (arith, up1, up2))
