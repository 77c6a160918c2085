-- The fields of a record that is written: each goes into its slot, or is passed over.
use Rattle.std.proofs.Common.{◌≡◌, ℕ, suc, ◌+◌, ◌-◌, ◌≤◌, List, [], ◌∷◌, length, Option, Some, Ok, refl, sym, ap, ◌∙◌, subst, arith}
use Rattle.spec_avro.specs.declared.meter.Meter.{Meter}
use Rattle.spec_decoding.specs.Decoding.{Complete, ◌>>=◌ as ◌>>◌}
use Rattle.spec_avro.specs.Datum.{Datum, Data, more, how_many}
use Rattle.spec_avro.specs.Node.{Node, FieldNode}
use Rattle.avro_datum.specs.Decoding.{Decoder, fields_at}
use Rattle.spec_avro.specs.declared.place.Route.{Route}
use Rattle.resolver.specs.Laws.Fields.{GoTo}
use Rattle.spec_avro.specs.Resolution.{Resolved, ◌>>=◌, Slots, resolved}
use Rattle.spec_machine.specs.Lengths.{total_length}
use Rattle.spec_machine.specs.Program.{Program}
use Rattle.spec_machine.specs.State.{Rec, State, Store, add_to_slot}
use Rattle.spec_machine.specs.Statements.{Section}
use Rattle.program_definition.specs.Stands.{Fields, Writes as CodeWrites, dropped, kept, no_field}
use Rattle.program_correctness.proofs.Buffers.{new_slots, no_bytes, no_bytes_added}
use Rattle.program_correctness.proofs.Effects.{bytes_of}
use Rattle.program_correctness.proofs.Follow.{Follows, follows_then, row_then, stay}
use Rattle.program_correctness.proofs.Holding.{holds_more, holds_so}
use Rattle.program_correctness.proofs.LookUps.{got_below}
use Rattle.program_correctness.proofs.Passing.{Passed}
use Rattle.program_correctness.proofs.Plain.{between, meter}
use Rattle.program_correctness.proofs.RecordSlots.{HoldsSlots, record_holds, slot_adds, slot_selected, top_depth, top_room}
use Rattle.program_correctness.proofs.Rooms.{IsDeeper}
use Rattle.program_correctness.proofs.Routes.{AreApart, AreOf, one_of}
use Rattle.program_correctness.proofs.SkipPlaces.{skips_forward}
use Rattle.program_correctness.proofs.Slots.{Keeps, buffers, fields_left, keeps_later, keeps_put, left_drop, left_end, left_keep, put_in, slot_bytes}
use Rattle.program_correctness.proofs.Standing.{AllSkipped, AllWritten}
use Rattle.program_correctness.proofs.Stores.{IsFit}
use Rattle.program_correctness.proofs.Writing.{Wrote}

module _ (W R : List Node) (P : Program) (Begins : Section → ℕ → Type 0) (p : List ℕ) where
  abbrev L : ℕ
  L = length P.code

  module _ (forward : (pc w r q : ℕ) → CodeWrites W R P Begins pc w r q → pc ≤ q) where
    pub fields_forward : {pc q : ℕ} {routes : List Route} → Fields W R P Begins pc routes q → pc ≤ q
    fields_forward no_field = omega arith
    fields_forward {routes = route ∷ routes} (dropped mid none code others) = omega (arith, skips_forward W P Begins code, fields_forward others)
    fields_forward {routes = route ∷ routes} (kept partner mid is here code others) = omega (arith, forward _ route.node partner.node mid code, fields_forward others)

    module _ (decoder : Decoder) (left less : ℕ) (skips : AllSkipped W P Begins p decoder less) (writes : AllWritten W R P Begins p decoder less) (gs : List FieldNode)
        (calls : List ℕ) (s : Store) (fit : IsFit s) (deeper : IsDeeper left s less) (few : length calls ≤ suc (length s.frames)) where
      abbrev deep : ℕ → Meter
      deep u = record { depth = suc (length s.frames); units = u }

      abbrev Held : Option ℕ → Resolved Slots → Store → Type 0
      Held cur acc t = HoldsSlots P p gs left less calls s fit deeper few cur (acc >>= λ slots. Ok (buffers slots)) t

      -- after fields, whose data are in the slots
      abbrev pub FieldsWritten : List FieldNode → ℕ → ℕ → (Data → Resolved Slots) → Data → ℕ → Meter → State → Type 0
      FieldsWritten fs q u res ds to m d = (t : Store) × (d ≡ between q to calls t m.units) × (m ≡ record { depth = suc (length s.frames); units = m.units }) × (u ≤ m.units) × (how_many ds ≡ length fs) × (cur : Option ℕ)
          × HoldsSlots P p gs left less calls s fit deeper few cur (res ds >>= λ slots. Ok (buffers slots)) t

      -- the fields after one
      one_more : (f : FieldNode) (fs : List FieldNode) (route : Route) (routes : List Route) (q u now k : ℕ) (acc acc1 : Resolved Slots) (x : Datum) (d : State) (to : ℕ) (m : Meter) → u ≤ now → ((ds : Data) → fields_left W R acc1 routes ds ≡ fields_left W R acc (route ∷ routes) (more x ds))
          → Follows P p L k d (fields_at decoder fs to m) (FieldsWritten fs q now (λ ds. fields_left W R acc1 routes ds)) → Follows P p L k d (fields_at decoder fs to m >> λ ds end last. Complete (more x ds) end last) (FieldsWritten (f ∷ fs) q u (λ ds. fields_left W R acc (route ∷ routes) ds))
      one_more f fs route routes q u now k acc acc1 x d to m le same runs =
          follows_then P p L k 0 k d (fields_at decoder fs to m) (λ ds end last. Complete (more x ds) end last) (FieldsWritten fs q now (λ ds. fields_left W R acc1 routes ds)) (FieldsWritten (f ∷ fs) q u (λ ds. fields_left W R acc (route ∷ routes) ds)) runs
          (λ ds end last e h. (e, stay P p L 0 e, (h.0, h.1, h.2, omega (arith, le, h.3), ap suc h.4, h.5, subst (λ (res : Resolved Slots). Held h.5 res h.0) (same ds) h.6)))
          (omega arith)

      pub fields_write : {pc q : ℕ} {routes : List Route} → Fields W R P Begins pc routes q → (fs : List FieldNode) → AreOf routes fs → GoTo gs routes → AreApart routes → (cur : Option ℕ) (acc : Resolved Slots) (t : Store) (a u : ℕ)
          → HoldsSlots P p gs left less calls s fit deeper few cur (acc >>= λ slots. Ok (buffers slots)) t → Keeps W R routes acc → Follows P p (length P.code) (q - pc) (between pc a calls t u) (fields_at decoder fs a (record { depth = suc (length s.frames); units = u })) (FieldsWritten fs q u (λ ds. fields_left W R acc routes ds))
      unfolding fields_at
      fields_write {pc = pc} no_field [] of go apart cur acc t a u held keeps =
          (between pc a calls t u, stay P p L (pc - pc) _, (t, refl, refl, omega arith, refl, cur, subst (λ (res : Resolved Slots). Held cur res t) (left_end W R acc) held))
      fields_write no_field (f ∷ fs) of go apart cur acc t a u held keeps = absurd of
      fields_write (dropped mid none code others) [] of go apart cur acc t a u held keeps = absurd of
      fields_write (kept partner mid is here code others) [] of go apart cur acc t a u held keeps = absurd of
      fields_write {pc = pc} {q = q} {routes = route ∷ routes} (dropped mid none code others) (f ∷ fs) of go apart cur acc t a u held keeps =
          let up1 = skips_forward W P Begins code in
          let up2 = fields_forward others in
          let depth = top_depth P p gs left less calls s fit deeper few cur (acc >>= λ slots. Ok (buffers slots)) t held in
          let Q = FieldsWritten (f ∷ fs) q u (λ ds. fields_left W R acc (route ∷ routes) ds) in
          let T = Passed P p L mid calls t u in
          let skip = subst (λ (k : ℕ). Follows P p L (mid - pc) (between pc a calls t u) (decoder f.node a (record { depth = k; units = u })) T) depth
          (subst (λ (n : ℕ). Follows P p L (mid - pc) (between pc a calls t u) (decoder n a (meter t u)) T) of.0
          (skips pc route.node mid code a u calls t (top_room P p gs left less calls s fit deeper few cur (acc >>= λ slots. Ok (buffers slots)) t held))) in
          follows_then P p L (mid - pc) (q - mid) (q - pc) (between pc a calls t u) (decoder f.node a (deep u)) (λ d to m. fields_at decoder fs to m >> λ ds end last. Complete (more d ds) end last) T Q skip
          (λ x to m d h.
          let m_is : m ≡ deep m.units = h.1 ∙ ap (λ (k : ℕ). record { depth = k; units = m.units }) depth in
          subst (λ (e : State). Follows P p L (q - mid) e (fields_at decoder fs to m >> λ ds end last. Complete (more x ds) end last) Q) (sym h.0)
          (one_more f fs route routes q u m.units (q - mid) acc acc x (between mid to calls t m.units) to m h.2 (λ ds. left_drop W R acc route routes x ds none)
          (subst (λ (y : Meter). Follows P p L (q - mid) (between mid to calls t m.units) (fields_at decoder fs to y) (FieldsWritten fs q m.units (λ ds. fields_left W R acc routes ds))) (sym m_is)
          (fields_write others fs of.1 go.1 apart.1 cur acc t to m.units held (keeps_later W R route routes acc keeps)))))
          (omega (arith, up1, up2))
      fields_write {pc = pc} {q = q} {routes = route ∷ routes} (kept partner mid is here code others) (f ∷ fs) of go apart cur acc t a u held keeps =
          let j = partner.position in
          let up1 = forward (pc + 1) route.node partner.node mid code in
          let up2 = fields_forward others in
          let one = one_of gs route partner is go.0 in
          let below = got_below gs j one.0 one.1 in
          let z = slot_selected P p gs left less calls s fit deeper few j pc a u cur (acc >>= λ slots. Ok (buffers slots)) t here below held in
          let Q = FieldsWritten (f ∷ fs) q u (λ ds. fields_left W R acc (route ∷ routes) ds) in
          let T = Wrote P p L mid calls z.store u (λ d. bytes_of (resolved W R route.node partner.node d)) in
          let body = subst (λ (k : ℕ). Follows P p L (mid - (pc + 1)) (between (pc + 1) a calls z.store u) (decoder f.node a (record { depth = k; units = u })) T) z.depth
          (subst (λ (n : ℕ). Follows P p L (mid - (pc + 1)) (between (pc + 1) a calls z.store u) (decoder n a (meter z.store u)) T) of.0
          (writes (pc + 1) route.node partner.node mid code a u calls z.store z.ready)) in
          row_then P p L (q - (pc + 1)) (q - pc) (between pc a calls t u) (between (pc + 1) a calls z.store u) (decoder f.node a (deep u) >> λ d to m. fields_at decoder fs to m >> λ ds end last. Complete (more d ds) end last) Q z.row
          (follows_then P p L (mid - (pc + 1)) (q - mid) (q - (pc + 1)) (between (pc + 1) a calls z.store u) (decoder f.node a (deep u)) (λ d to m. fields_at decoder fs to m >> λ ds end last. Complete (more d ds) end last) T Q body
          (λ x to m d h.
          let res = resolved W R route.node partner.node x in
          let acc1 = put_in W R j acc res in
          let t2 = h.0 in
          let held2 : Held (Some j) acc1 t2 = holds_so P.misses no_bytes total_length (Rec (Some j)) (new_slots (length gs)) _ (acc1 >>= λ slots. Ok (buffers slots)) s t2 (slot_bytes W R route routes partner acc res is keeps)
          (holds_more P.misses no_bytes total_length (Rec (Some j)) (record_holds (Some j)) (new_slots (length gs)) (add_to_slot j) (λ x c. no_bytes_added j x c) (acc >>= λ slots. Ok (buffers slots)) (bytes_of res) s z.store t2 (slot_adds P p gs left less calls s fit deeper few j below) z.held h.4) in
          let m_is : m ≡ deep m.units = h.2 ∙ ap (λ (k : ℕ). record { depth = k; units = m.units }) z.depth in
          subst (λ (e : State). Follows P p L (q - mid) e (fields_at decoder fs to m >> λ ds end last. Complete (more x ds) end last) Q) (sym h.1)
          (one_more f fs route routes q u m.units (q - mid) acc acc1 x (between mid to calls t2 m.units) to m h.3 (λ ds. left_keep W R acc route routes partner x ds is)
          (subst (λ (y : Meter). Follows P p L (q - mid) (between mid to calls t2 m.units) (fields_at decoder fs to y) (FieldsWritten fs q m.units (λ ds. fields_left W R acc1 routes ds))) (sym m_is)
          (fields_write others fs of.1 go.1 apart.1 (Some j) acc1 t2 to m.units held2 (keeps_put W R route routes partner acc res is apart keeps)))))
          (omega (arith, up1, up2)))
          (omega (arith, up1, up2))
