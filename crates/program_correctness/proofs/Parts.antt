-- Code that writes arrays and maps, and one part after another.
use Rattle.std.proofs.Common.{◌≡◌, ℕ, suc, ◌+◌, ◌≤◌, List, [], length, Ok, Err, Some, refl, sym, ap, ◌∙◌, subst, arith, slice_get}
use Rattle.spec_avro.specs.declared.meter.Meter.{Meter}
use Rattle.spec_decoding.specs.Decoding.{◌>>=◌ as ◌>>◌}
use Rattle.avro_bytes.specs.Decoding.{map_decoding}
use Rattle.spec_decoding.specs.Walk.{first_walk}
use Rattle.spec_avro.specs.Written.{in_block}
use Rattle.avro_bytes.specs.Laws.Meters.{blocks_were_opened, same_meter}
use Rattle.avro_datum.specs.ItemDecoding.{Reader, blocks_at, items_at, steps_left}
use Rattle.spec_avro.specs.Resolution.{Resolved, ◌>>=◌}
use Rattle.spec_machine.specs.declared.instr.Instr.TheVariants as op
use Rattle.spec_machine.specs.Program.{Program}
use Rattle.spec_machine.specs.State.{Blocks, State, Store}
use Rattle.program_correctness.proofs.Effects.{both, effects}
use Rattle.program_correctness.proofs.Follow.{Follows, follows_map, follows_so, follows_then}
use Rattle.program_correctness.proofs.Holding.{Becomes, becomes_after, marked_on}
use Rattle.program_correctness.proofs.Opening.{blocks_open}
use Rattle.program_correctness.proofs.Plain.{between, meter, row_of_instr}
use Rattle.program_correctness.proofs.Rooms.{IsReady, one_frame}
use Rattle.program_correctness.proofs.Stores.{opened, push_empty}
use Rattle.program_correctness.proofs.WriteLoop.{AllWritten, HoldsItems, write_loop}
use Rattle.program_correctness.proofs.Writing.{Writes, Wrote, becomes_ready}

module _ (P : Program) (p : List ℕ) (L : ℕ) where
  -- ---- arrays and maps

  pub blocks_write : {A : Type 0} (left k pc q : ℕ) (reader : Reader A) (effect : A → Resolved (List ℕ)) → slice_get P.code pc ≡ Some op.Blocks → slice_get P.code (pc + 1) ≡ Some (op.Next (q + 1)) → slice_get P.code q ≡ Some (op.Jump (pc + 1)) → k + 2 ≤ L
      → ((less : ℕ) → left ≡ suc less → Writes P p L less k (pc + 1 + 1) q reader effect) → Writes P p L left 1 pc (q + 1) (blocks_at reader p) (λ vs. effects effect vs >>= λ y. Ok (in_block (length vs) y))
  blocks_write {A = A} left k pc q reader effect here loops back short runs at u calls s ready =
      blocks_open P p L 0 (Blocks (first_walk at) 0 []) (between pc at calls s u) (λ m. items_at (steps_left m) reader p (first_walk at) at m) Q
      (row_of_instr P p (between pc at calls s u) op.Blocks refl here)
      (λ m o.
      let w = blocks_were_opened at (meter s u) m o in
      let deeper = one_frame left calls s ready.has_room w.shallow in
      let m_is : m ≡ record { depth = suc (length s.frames); units = m.units } = same_meter m (record { depth = suc (length s.frames); units = m.units }) (w.deeper ∙ omega arith) refl in
      let t = opened (Blocks (first_walk at) 0 []) s in
      let start = between (pc + 1) at calls t m.units in
      let held : HoldsItems P p L (first_walk at) 0 (Ok []) s t = (refl, sym (push_empty (Blocks (first_walk at) 0 []) s ready.fit refl refl)) in
      let inner = runs _ deeper.room in
      let Ended = AllWritten P p L reader effect left _ (pc + 1) (q + 1) q k inner calls s loops back short ready deeper m.units 0 (Ok []) in
      let goes = write_loop P p L reader effect left _ (pc + 1) (q + 1) q k inner calls s loops back short ready deeper (steps_left m) (first_walk at) 0 (Ok []) t at m.units (omega arith) (λ e. refl) held in
      follows_so P p L 0 0 start (items_at (steps_left m) reader p (first_walk at) at m) Ended Q (omega arith)
      (subst (λ (x : Meter). Follows P p L 0 start (items_at (steps_left m) reader p (first_walk at) at x) Ended) (sym m_is) goes)
      (λ vs end last d g h.
      let z : 0 + length vs ≡ length vs = omega arith in
      (h.0, h.1, same_meter last (meter s last.units) h.2 refl, omega (arith, h.3, w.same_units), subst (λ (n : ℕ). Becomes P.misses (effects effect vs >>= λ y. Ok (in_block n y)) s h.0) z h.4)))
    where
      Q : List A → ℕ → Meter → State → Type 0
      Q = Wrote P p L (q + 1) calls s u (λ vs. effects effect vs >>= λ y. Ok (in_block (length vs) y))

  -- ---- one part after another

  becomes_both : (a b : Resolved (List ℕ)) (left : ℕ) (calls : List ℕ) (s t last : Store) → IsReady left calls s → Becomes P.misses a s t → Becomes P.misses b t last → Becomes P.misses (both a b) s last
  becomes_both (Ok x) b left calls s t last r h k = becomes_after P.misses x b s last r.fit r.current (subst (λ (z : Store). Becomes P.misses b z last) h k)
  becomes_both (Err m) b left calls s t last r h k = marked_on P.misses m b s t last h k

  -- a part after one that wrote, in the same terms
  part_after : {B : Type 0} (left k pc q : ℕ) (reader : Reader B) (effect : B → Resolved (List ℕ)) → Writes P p L left k pc q reader effect → (first : Resolved (List ℕ)) (calls : List ℕ) (s : Store) (u : ℕ) → IsReady left calls s → (at : ℕ) (m : Meter) (d : State) (t : Store) → d ≡ between pc at calls t m.units → m ≡ meter s m.units → u ≤ m.units → Becomes P.misses first s t
      → Follows P p L k d (reader at m) (Wrote P p L q calls s u (λ b. both first (effect b)))
  part_after left k pc q reader effect runs first calls s u ready at m d t d_is m_is le after =
      let r = becomes_ready P.misses first left calls s t ready after in
      let same : m ≡ meter t m.units = m_is ∙ ap (λ (n : ℕ). record { depth = n; units = m.units }) (sym r.1) in
      subst (λ (x : State). Follows P p L k x (reader at m) (Wrote P p L q calls s u (λ b. both first (effect b)))) (sym d_is)
      (follows_so P p L k k (between pc at calls t m.units) (reader at m) (Wrote P p L q calls t m.units effect) (Wrote P p L q calls s u (λ b. both first (effect b))) (omega arith)
      (subst (λ (x : Meter). Follows P p L k (between pc at calls t m.units) (reader at x) (Wrote P p L q calls t m.units effect)) (sym same) (runs at m.units calls t r.0))
      (λ b to n e g h. (h.0, h.1, h.2 ∙ ap (λ (k : ℕ). record { depth = k; units = n.units }) r.1, omega (arith, le, h.3), becomes_both first (effect b) left calls s t h.0 ready after h.4)))

  pub both_write : {A B : Type 0} (left j k pc mid q : ℕ) (first : Reader A) (second : Reader B) (f : A → Resolved (List ℕ)) (g : B → Resolved (List ℕ)) → Writes P p L left j pc mid first f → Writes P p L left k mid q second g
      → Writes P p L left (j + k) pc q (λ at m. first at m >> λ a to after. map_decoding (λ b. (a, b)) (second to after)) (λ (v : A × B). both (f v.0) (g v.1))
  both_write {A = A} {B = B} left j k pc mid q first second f g one two at u calls s ready =
      follows_then P p L j k (j + k) (between pc at calls s u) (first at (meter s u)) (λ a to after. map_decoding (λ b. (a, b)) (second to after)) (Wrote P p L mid calls s u f) (Wrote P p L q calls s u (λ (v : A × B). both (f v.0) (g v.1))) (one at u calls s ready)
      (λ a to m d h. follows_map P p L k d (second to m) (λ b. (a, b)) (Wrote P p L q calls s u (λ b. both (f a) (g b))) (Wrote P p L q calls s u (λ (v : A × B). both (f v.0) (g v.1)))
      (part_after left k mid q second g two (f a) calls s u ready to m d h.0 h.1 h.2 h.3 h.4)
      (λ b end n e z. z))
      (omega arith)
