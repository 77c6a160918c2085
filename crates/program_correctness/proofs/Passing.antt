-- Code that passes over what a reader gives leaves the store as it was.
use Rattle.std.proofs.Common.{◌≡◌, ℕ, zero, suc, ◌+◌, ◌≤◌, true, List, length, Some, refl, sym, ap, ◌∙◌, subst, arith, lit<, slice_get}
use Rattle.spec_avro.specs.declared.meter.Meter.{Meter}
use Rattle.spec_avro.specs.declared.malformed.MalformedKind.TheVariants.{BadEnum}
use Rattle.avro_bytes.specs.Blob.{content_at, fixed_at}
use Rattle.spec_decoding.specs.BooleanDecoding.{boolean_at}
use Rattle.spec_decoding.specs.Decoding.{Decoding, Complete, ◌>>=◌}
use Rattle.avro_bytes.specs.Decoding.{map_decoding}
use Rattle.spec_avro.specs.Number.{int_limit, long_limit}
use Rattle.spec_decoding.specs.NumberDecoding.{number_at}
use Rattle.spec_decoding.specs.PositionDecoding.{position_at}
use Rattle.avro_bytes.specs.Text.{text_at}
use Rattle.spec_decoding.specs.Walk.{first_walk}
use Rattle.spec_avro.specs.Written.{after_length}
use Rattle.avro_bytes.specs.Laws.Booleans.{boolean_sound}
use Rattle.avro_bytes.specs.Laws.Meters.{blocks_were_opened, same_meter}
use Rattle.avro_bytes.specs.Laws.Numbers.{number_sound}
use Rattle.avro_bytes.specs.Laws.Positions.{position_sound}
use Rattle.avro_datum.specs.ItemDecoding.{Reader, blocks_at, items_at, steps_left}
use Rattle.spec_machine.specs.declared.instr.Instr.{Instr}
use Rattle.spec_machine.specs.declared.instr.Instr.TheVariants as op
use Rattle.spec_machine.specs.Program.{Program}
use Rattle.spec_machine.specs.Row.{row}
use Rattle.spec_machine.specs.State.{Content, SkipBlocks, State, Store, meter_of}
use Rattle.spec_machine.specs.Table.{fixed, moves, next, reads}
use Rattle.program_correctness.proofs.Contents.{Anything, OnlyText, Puts, move_of, unchecked}
use Rattle.program_correctness.proofs.Follow.{Follows, follows_map, follows_so, follows_then, reads_all, stay}
use Rattle.program_correctness.proofs.Moving.{Landed, content_follows, fixed_follows}
use Rattle.program_correctness.proofs.Opening.{blocks_open}
use Rattle.program_correctness.proofs.Plain.{between, meter, moving, plain_row, row_of_instr}
use Rattle.program_correctness.proofs.Rooms.{HasRoom, one_frame, room_inside}
use Rattle.program_correctness.proofs.SkipLoop.{AllPassed, skip_loop}
use Rattle.program_correctness.proofs.Stores.{opened}

-- bytes that are passed over
abbrev unkept : List ℕ → Store → Store
unkept x s = s

any_store : Puts unkept (λ s. Unit {0})
any_store = record { none = λ s h. refl; twice = λ x y s h. refl; keeps = λ x s h. tt }

module _ (P : Program) (p : List ℕ) (L : ℕ) where
  -- the store is as before, at a further place
  abbrev pub Passed : {A : Type 0} → ℕ → List ℕ → Store → ℕ → A → ℕ → Meter → State → Type 0
  Passed q calls s u v to m d = (d ≡ between q to calls s m.units) × (m ≡ meter s m.units) × (u ≤ m.units)

  -- where `left` more records, arrays and maps may be opened: from pc the rows follow the reader to q, in at most `k`
  -- rows more than are paid
  abbrev pub Passes : {A : Type 0} → ℕ → ℕ → ℕ → ℕ → Reader A → Type 0
  Passes left k pc q reader = (at u : ℕ) (calls : List ℕ) (s : Store) → HasRoom left calls s → Follows P p L k (between pc at calls s u) (reader at (meter s u)) (Passed q calls s u)

  same_units : {A : Type 0} (q u : ℕ) (calls : List ℕ) (s : Store) (v : A) (to : ℕ) (m : Meter) (d : State) → d ≡ between q to calls s u → m ≡ meter s u → Passed q calls s u v to m d
  same_units q u calls s v to m d h e =
      let same : u ≡ m.units = ap (λ (x : Meter). x.units) (sym e) in
      (h ∙ ap (between q to calls s) same, e ∙ ap (meter s) same, omega (arith, same))

  -- ---- parts

  pub passes_so : {A : Type 0} (left j k pc q : ℕ) (reader : Reader A) → j ≤ k → Passes left j pc q reader → Passes left k pc q reader
  passes_so left j k pc q reader le runs at u calls s room = follows_so P p L j k _ (reader at (meter s u)) (Passed q calls s u) (Passed q calls s u) le (runs at u calls s room) (λ v to m d g h. h)

  pub passes_map : {A B : Type 0} (left k pc q : ℕ) (reader : Reader A) (f : A → B) → Passes left k pc q reader → Passes left k pc q (λ at m. map_decoding f (reader at m))
  passes_map left k pc q reader f runs at u calls s room = follows_map P p L k _ (reader at (meter s u)) f (Passed q calls s u) (Passed q calls s u) (runs at u calls s room) (λ v to m d h. h)

  pub passes_then : {A B : Type 0} (left j k n pc mid q : ℕ) (first : Reader A) (second : A → Reader B) → j + k ≤ n → Passes left j pc mid first → ((a : A) → Passes left k mid q (second a)) → Passes left n pc q (λ at m. first at m >>= second)
  passes_then left j k n pc mid q first second le one two at u calls s room =
      follows_then P p L j k n (between pc at calls s u) (first at (meter s u)) second (Passed mid calls s u) (Passed q calls s u) (one at u calls s room)
      (λ a to m d h.
      subst (λ (x : State). Follows P p L k x (second a to m) (Passed q calls s u)) (sym h.0)
      (subst (λ (x : Meter). Follows P p L k (between mid to calls s m.units) (second a to x) (Passed q calls s u)) (sym h.1)
      (follows_so P p L k k _ (second a to (meter s m.units)) (Passed q calls s m.units) (Passed q calls s u) (omega arith) (two a to m.units calls s room) (λ v end last e x g. (g.0, g.1, omega (arith, g.2, h.2))))))
      le

  pub passes_none : {A : Type 0} (left k pc : ℕ) (v : A) → Passes left k pc pc (λ at m. Complete v at m)
  passes_none left k pc v at u calls s room = (between pc at calls s u, stay P p L k _, (refl, refl, omega arith))

  -- ---- numbers and the like

  -- a row that reads and keeps nothing
  row_passes : {A : Type 0} (left pc : ℕ) (i : Instr) (reader : Reader A) → slice_get P.code pc ≡ Some i → ((s : State) → row P p true i s ≡ reads P p true s (reader s.pos (meter_of s)) (λ v to m. Some (next to s))) → ((at to : ℕ) (m n : Meter) (v : A) → reader at m ≡ Complete v to n → (at ≤ to) × (m ≡ n)) → Passes left 1 pc (pc + 1) reader
  row_passes left pc i reader here row sound at u calls s room =
      reads_all P p L 1 (between pc at calls s u) (reader at (meter s u)) (λ v to m. Some (next to (between pc at calls s u))) (Passed (pc + 1) calls s u)
      (row_of_instr P p (between pc at calls s u) i refl here ∙ row (between pc at calls s u))
      (λ v to m e.
      let t = sound at to (meter s u) m v e in
      record { new = between (pc + 1) to calls s u; row_is = refl; is_such = same_units (pc + 1) u calls s v to m (between (pc + 1) to calls s u) refl (sym t.1); pays = omega (arith, t.0) })

  pub boolean_passes : (left pc : ℕ) → slice_get P.code pc ≡ Some op.SkipBool → Passes left 1 pc (pc + 1) (boolean_at p)
  boolean_passes left pc here = row_passes left pc op.SkipBool (boolean_at p) here (λ s. refl) (λ at to m n v e. let t = boolean_sound p at m v to n e in (omega (arith, t.0.end), t.1))

  pub int_passes : (left pc : ℕ) → slice_get P.code pc ≡ Some op.SkipInt → Passes left 1 pc (pc + 1) (number_at int_limit p)
  int_passes left pc here = row_passes left pc op.SkipInt (number_at int_limit p) here (λ s. refl) (λ at to m n v e. let t = number_sound int_limit p at m v to n (lit< tt) e in (omega (arith, t.0.end), t.1))

  pub long_passes : (left pc : ℕ) → slice_get P.code pc ≡ Some op.SkipLong → Passes left 1 pc (pc + 1) (number_at long_limit p)
  long_passes left pc here = row_passes left pc op.SkipLong (number_at long_limit p) here (λ s. refl) (λ at to m n v e. let t = number_sound long_limit p at m v to n (lit< tt) e in (omega (arith, t.0.end), t.1))

  pub enum_passes : (left pc many : ℕ) → slice_get P.code pc ≡ Some (op.SkipEnum many) → Passes left 1 pc (pc + 1) (position_at BadEnum many p)
  enum_passes left pc many here = row_passes left pc (op.SkipEnum many) (position_at BadEnum many p) here (λ s. refl) (λ at to m n v e. let t = position_sound BadEnum many p at m v to n e in (omega (arith, t.0.end), t.1))

  -- ---- contents

  pub bytes_pass : (left pc : ℕ) → slice_get P.code pc ≡ Some op.SkipBytes → Passes left 1 pc (pc + 1) (content_at p)
  bytes_pass left pc here at u calls s room =
      subst (λ (g : Decoding (List ℕ)). Follows P p L 1 (between pc at calls s u) g (Passed (pc + 1) calls s u)) (unchecked Anything (λ x to m. refl) (content_at p at (meter s u)))
      (follows_so P p L 1 1 _ _ (λ v. Landed P p L unkept (λ s. Unit {0}) any_store Anything pc calls u (λ content a t f. row_of_instr P p _ op.SkipBytes refl here) s (after_length v) v) (Passed (pc + 1) calls s u) (omega arith)
      (content_follows P p L unkept (λ s. Unit {0}) any_store Anything pc calls u (λ content a t f. row_of_instr P p _ op.SkipBytes refl here) at s tt (row_of_instr P p _ op.SkipBytes refl here))
      (λ v to m d g h. same_units (pc + 1) u calls s v to m d h.0 h.1))

  pub text_passes : (left pc : ℕ) → slice_get P.code pc ≡ Some op.SkipText → Passes left 1 pc (pc + 1) (text_at p)
  unfolding text_at
  text_passes left pc here at u calls s room =
      follows_so P p L 1 1 _ _ (λ v. Landed P p L unkept (λ s. Unit {0}) any_store OnlyText pc calls u (λ content a t f. row_of_instr P p _ op.SkipText refl here) s (after_length v) v) (Passed (pc + 1) calls s u) (omega arith)
      (content_follows P p L unkept (λ s. Unit {0}) any_store OnlyText pc calls u (λ content a t f. row_of_instr P p _ op.SkipText refl here) at s tt (row_of_instr P p _ op.SkipText refl here))
      (λ v to m d g h. same_units (pc + 1) u calls s v to m d h.0 h.1)

  pub fixed_passes : (left pc n : ℕ) → slice_get P.code pc ≡ Some (op.SkipFixed n) → Passes left 1 pc (pc + 1) (fixed_at n p)
  fixed_passes left pc n here at u calls s room =
      subst (λ (g : Decoding (List ℕ)). Follows P p L 1 (between pc at calls s u) g (Passed (pc + 1) calls s u)) (unchecked Anything (λ x to m. refl) (fixed_at n p at (meter s u)))
      (follows_so P p L 1 1 _ _ (λ v. Landed P p L unkept (λ s. Unit {0}) any_store Anything pc calls u rows s v v) (Passed (pc + 1) calls s u) (omega arith)
      (fixed_follows P p L unkept (λ s. Unit {0}) any_store Anything pc calls u rows n at s tt refl (row_of_instr P p _ (op.SkipFixed n) refl here))
      (λ v to m d g h. same_units (pc + 1) u calls s v to m d h.0 h.1))
    where
      with_part : (n : ℕ) (content : Content) (s : State) → fixed P p true (move_of unkept Anything) n s (Some content) ≡ moves P p true (move_of unkept Anything) content s
      with_part zero content s = refl
      with_part (suc n) content s = refl

      rows : (content : Content) (a : ℕ) (t : Store) → Unit {0} → plain_row P p (moving (Some content) pc a calls t u) ≡ moves P p true (move_of unkept Anything) content (moving (Some content) pc a calls t u)
      rows content a t f = row_of_instr P p _ (op.SkipFixed n) refl here ∙ with_part n content (moving (Some content) pc a calls t u)

  -- ---- arrays and maps

  pub blocks_pass : {A : Type 0} (left k pc q : ℕ) (reader : Reader A) → slice_get P.code pc ≡ Some op.SkipBlocks → slice_get P.code (pc + 1) ≡ Some (op.SkipNext (q + 1)) → slice_get P.code q ≡ Some (op.Jump (pc + 1)) → k + 2 ≤ L
      → ((less : ℕ) → left ≡ suc less → Passes less k (pc + 1 + 1) q reader) → Passes left 1 pc (q + 1) (blocks_at reader p)
  blocks_pass left k pc q reader here loops back short runs at u calls s room =
      blocks_open P p L 0 (SkipBlocks (first_walk at)) (between pc at calls s u) (λ w. items_at (steps_left w) reader p (first_walk at) at w) (Passed (q + 1) calls s u)
      (row_of_instr P p (between pc at calls s u) op.SkipBlocks refl here)
      (λ m o.
      let w = blocks_were_opened at (meter s u) m o in
      let deeper = one_frame left calls s room w.shallow in
      let m_is : m ≡ record { depth = suc (length s.frames); units = m.units } = same_meter m (record { depth = suc (length s.frames); units = m.units }) (w.deeper ∙ omega arith) refl in
      let start = between (pc + 1) at calls (opened (SkipBlocks (first_walk at)) s) m.units in
      let goes = skip_loop P p L reader (pc + 1) (q + 1) q k calls s loops back short
      (λ walk at u. runs _ deeper.room at u calls (opened (SkipBlocks walk) s) (room_inside left _ calls s (opened (SkipBlocks walk) s) room deeper refl))
      (steps_left m) (first_walk at) at m.units (omega arith) in
      follows_so P p L 0 0 start (items_at (steps_left m) reader p (first_walk at) at m) (AllPassed P p L reader (pc + 1) (q + 1) q k calls s loops back short m.units) (Passed (q + 1) calls s u) (omega arith)
      (subst (λ (x : Meter). Follows P p L 0 start (items_at (steps_left m) reader p (first_walk at) at x) (AllPassed P p L reader (pc + 1) (q + 1) q k calls s loops back short m.units)) (sym m_is) goes)
      (λ vs end last d g h. (h.0, same_meter last (meter s last.units) h.1 refl, omega (arith, h.2, w.same_units))))
