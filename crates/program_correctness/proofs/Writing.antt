-- Code that writes: it follows a reader, and its effect is the bytes of what was read, or a mismatch.
use Rattle.std.proofs.Common.{◌≡◌, ℕ, ◌≤◌, List, length, Ok, Err, sym, ◌∙◌, subst}
use Rattle.spec_avro.specs.declared.meter.Meter.{Meter}
use Rattle.spec_decoding.specs.Decoding.{Complete}
use Rattle.avro_bytes.specs.Decoding.{map_decoding}
use Rattle.avro_datum.specs.ItemDecoding.{Reader}
use Rattle.spec_avro.specs.declared.mismatch.Mismatch.{Mismatch}
use Rattle.spec_avro.specs.Resolution.{Resolved}
use Rattle.spec_machine.specs.Program.{Program}
use Rattle.spec_machine.specs.State.{State, Store, add, has_current}
use Rattle.program_correctness.proofs.Buffers.{current_emptied, emptied_length}
use Rattle.program_correctness.proofs.Follow.{Follows, follows_map, follows_so}
use Rattle.program_correctness.proofs.Holding.{Becomes, becomes_so}
use Rattle.program_correctness.proofs.Marks.{stamp_fits}
use Rattle.program_correctness.proofs.Plain.{between, meter}
use Rattle.program_correctness.proofs.Rooms.{IsReady, room_as}
use Rattle.program_correctness.proofs.Stores.{add_fits, add_frames}

-- ---- what stays as it was

pub add_depth : (x : List ℕ) (left : ℕ) (calls : List ℕ) (s : Store) → IsReady left calls s → length ((add x s).frames) ≡ length s.frames
add_depth x left calls s r = add_frames length x s r.fit r.current emptied_length

pub add_ready : (x : List ℕ) (left : ℕ) (calls : List ℕ) (s : Store) → IsReady left calls s → IsReady left calls (add x s)
add_ready x left calls s r = record {
  fit = add_fits x s r.fit r.current;
  current = add_frames has_current x s r.fit r.current current_emptied ∙ r.current;
  has_room = room_as left calls s (add x s) r.has_room (add_depth x left calls s r);
}

pub becomes_ready : (misses : List Mismatch) (res : Resolved (List ℕ)) (left : ℕ) (calls : List ℕ) (s t : Store) → IsReady left calls s → Becomes misses res s t → IsReady left calls t × (length t.frames ≡ length s.frames)
becomes_ready misses (Ok x) left calls s t r h = subst (λ (t : Store). IsReady left calls t × (length t.frames ≡ length s.frames)) (sym h) (add_ready x left calls s r, add_depth x left calls s r)
becomes_ready misses (Err m) left calls s t r h =
    let depth = emptied_length s.frames in
    subst (λ (t : Store). IsReady left calls t × (length t.frames ≡ length s.frames)) (sym h.3)
    (record { fit = stamp_fits h.0 h.1 s; current = current_emptied s.frames ∙ r.current; has_room = room_as left calls s _ r.has_room depth }, depth)

module _ (P : Program) (p : List ℕ) (L : ℕ) where
  -- after what was read, with its bytes in the store
  abbrev pub Wrote : {A : Type 0} → ℕ → List ℕ → Store → ℕ → (A → Resolved (List ℕ)) → A → ℕ → Meter → State → Type 0
  Wrote q calls s u effect v to m d = (t : Store) × (d ≡ between q to calls t m.units) × (m ≡ meter s m.units) × (u ≤ m.units) × Becomes P.misses (effect v) s t

  -- from any ready state at pc the rows follow the reader to q, with this effect, in at most `k` rows more than are
  -- paid
  abbrev pub Writes : {A : Type 0} → ℕ → ℕ → ℕ → ℕ → Reader A → (A → Resolved (List ℕ)) → Type 0
  Writes left k pc q reader effect = (at u : ℕ) (calls : List ℕ) (s : Store) → IsReady left calls s → Follows P p L k (between pc at calls s u) (reader at (meter s u)) (Wrote q calls s u effect)

  -- another effect, the same on all that may be read
  pub writes_so : {A : Type 0} (left j k pc q : ℕ) (reader : Reader A) (effect other : A → Resolved (List ℕ)) → j ≤ k → ((at to : ℕ) (m n : Meter) (v : A) → reader at m ≡ Complete v to n → effect v ≡ other v) → Writes left j pc q reader effect → Writes left k pc q reader other
  writes_so left j k pc q reader effect other le same runs at u calls s ready =
      follows_so P p L j k (between pc at calls s u) (reader at (meter s u)) (Wrote q calls s u effect) (Wrote q calls s u other) le (runs at u calls s ready)
      (λ a to m d g h. (h.0, h.1, h.2, h.3, becomes_so P.misses (effect a) (other a) s h.0 (same at to (meter s u) m a g) h.4))

  -- what is made of a value
  pub writes_map : {A B : Type 0} (left k pc q : ℕ) (reader : Reader A) (f : A → B) (effect : B → Resolved (List ℕ)) → Writes left k pc q reader (λ a. effect (f a)) → Writes left k pc q (λ at m. map_decoding f (reader at m)) effect
  writes_map left k pc q reader f effect runs at u calls s ready =
      follows_map P p L k (between pc at calls s u) (reader at (meter s u)) f (Wrote q calls s u (λ a. effect (f a))) (Wrote q calls s u effect) (runs at u calls s ready) (λ a to m d h. h)
