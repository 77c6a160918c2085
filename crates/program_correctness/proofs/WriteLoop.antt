-- The loop over items that are written, whatever reads an item and whatever bytes come of it.
use Rattle.std.proofs.Common.{◌≡◌, ℕ, zero, suc, ◌+◌, ◌-◌, ◌*◌, ◌≤◌, ◌<◌, true, List, [], ◌∷◌, ◌++◌, length, Option, Some, None, Ok, refl, sym, ap, ◌∙◌, subst, arith, length-append, slice_get, pos}
use Rattle.spec_avro.specs.declared.limits.TheConstants.{MOST_UNITS}
use Rattle.spec_avro.specs.declared.meter.Meter.{Meter}
use Rattle.spec_decoding.specs.BlockDecoding.{next_item}
use Rattle.spec_decoding.specs.Decoding.{Complete}
use Rattle.avro_bytes.specs.Decoding.{map_decoding}
use Rattle.spec_avro.specs.Shortest.{shortest}
use Rattle.spec_decoding.specs.Walk.{Walk}
use Rattle.spec_avro.specs.Written.{block_count, in_block}
use Rattle.avro_bytes.specs.Laws.Meters.{same_meter}
use Rattle.avro_bytes.specs.Laws.Walks.{end_meter, end_takes, item_meter}
use Rattle.avro_datum.specs.ItemDecoding.{Reader, items_at, items_from}
use Rattle.spec_avro.specs.Resolution.{Resolved, ◌>>=◌}
use Rattle.spec_machine.specs.declared.instr.Instr.TheVariants as op
use Rattle.spec_machine.specs.Program.{Program}
use Rattle.spec_machine.specs.State.{Blocks, Frame, State, Store, add, has_current, meter_of}
use Rattle.spec_machine.specs.Table.{gathered, items_closed, next_of, reads}
use Rattle.program_correctness.proofs.Effects.{in_one, in_one_more, in_one_none}
use Rattle.program_correctness.proofs.Follow.{Follows, Leads, follows_map, follows_then, reads_then, row_then, stay}
use Rattle.program_correctness.proofs.Holding.{Becomes, Holds, IsHolder, Top, becomes_so, holds_more, top}
use Rattle.program_correctness.proofs.Plain.{between, meter, row_of_instr}
use Rattle.program_correctness.proofs.Rooms.{IsDeeper, IsReady, room_inside}
use Rattle.program_correctness.proofs.SkipLoop.{step_takes}
use Rattle.program_correctness.proofs.Stores.{add_to_blocks}
use Rattle.program_correctness.proofs.Writing.{Writes, Wrote}

in_block_longer : (n : ℕ) (x : List ℕ) → length x ≤ length (in_block n x)
in_block_longer n x = omega (arith, length-append (block_count n) (x ++ shortest (pos 0)), length-append x (shortest (pos 0)))

-- ---- what the row that closes adds, where nothing came before the first item

closed_longer : (n : ℕ) (acc : Resolved (List ℕ)) → (n ≡ 0 → acc ≡ Ok []) → (x : List ℕ) → acc ≡ Ok x → length x ≤ length (items_closed n x)
closed_longer zero acc none x is =
    let same : Ok x ≡ Ok [] = sym is ∙ none refl in
    let empty : x ≡ [] = cc in
    omega (arith, ap length empty)
closed_longer (suc n) acc none x is = in_block_longer (suc n) x

closed_in_one : {A : Type 0} (effect : A → Resolved (List ℕ)) (n : ℕ) (acc : Resolved (List ℕ)) → (n ≡ 0 → acc ≡ Ok []) → (acc >>= λ x. Ok (items_closed n x)) ≡ in_one effect n acc []
closed_in_one effect zero acc none = ap (λ (r : Resolved (List ℕ)). r >>= λ x. Ok (items_closed 0 x)) (none refl) ∙ ap (λ (r : Resolved (List ℕ)). in_one effect 0 r []) (sym (none refl))
closed_in_one effect (suc n) acc none = in_one_none effect (suc n) acc

abbrev pub no_buffer : List ℕ → List ℕ
no_buffer x = []

blocks_hold : (walk : Walk) (n : ℕ) → IsHolder no_buffer length (Blocks walk n)
blocks_hold walk n = record { wiped = λ x. refl; sized = λ x. refl }

module _ (P : Program) (p : List ℕ) (L : ℕ) where
  next_is : (a : ℕ) (c : State) (walk : Walk) (n : ℕ) (buffer : List ℕ) (below : List Frame) → c.store.frames ≡ Blocks walk n buffer ∷ below → next_of P p true a c c.store.frames ≡ reads P p true c (next_item walk p c.pos (meter_of c)) (gathered a c n buffer below)
  next_is a c walk n buffer below is = ap (next_of P p true a c) is

  -- the array or map is on top, and what came of the items so far is in its buffer
  abbrev pub HoldsItems : Walk → ℕ → Resolved (List ℕ) → Store → Store → Type 0
  HoldsItems walk n acc s t = Holds P.misses no_buffer length (Blocks walk n) [] acc s t

  module _ {A : Type 0} (reader : Reader A) (effect : A → Resolved (List ℕ)) (left less pc e q k : ℕ) (runs : Writes P p L less k (pc + 1) q reader effect) (calls : List ℕ) (s : Store)
      (next_here : slice_get P.code pc ≡ Some (op.Next e)) (jump_here : slice_get P.code q ≡ Some (op.Jump pc)) (short : k + 2 ≤ L)
      (ready : IsReady left calls s) (deeper : IsDeeper left s less) where
    abbrev deep : ℕ → Meter
    deep u = record { depth = suc (length s.frames); units = u }

    abbrev pub AllWritten : ℕ → ℕ → Resolved (List ℕ) → List A → ℕ → Meter → State → Type 0
    AllWritten u n acc vs to m d = (t : Store) × (d ≡ between e to calls t m.units) × (m.depth ≡ length s.frames) × (u ≤ m.units) × Becomes P.misses (in_one effect n acc vs) s t

    abbrev Loops : ℕ → Type 0
    Loops fuel = (walk : Walk) (n : ℕ) (acc : Resolved (List ℕ)) (t : Store) (at u : ℕ) → suc (MOST_UNITS - u) ≤ fuel → (n ≡ 0 → acc ≡ Ok []) → HoldsItems walk n acc s t → Follows P p L 0 (between pc at calls t u) (items_at fuel reader p walk at (deep u)) (AllWritten u n acc)

    pub write_loop : (fuel : ℕ) (walk : Walk) (n : ℕ) (acc : Resolved (List ℕ)) (t : Store) (at u : ℕ) → suc (MOST_UNITS - u) ≤ fuel → (n ≡ 0 → acc ≡ Ok []) → HoldsItems walk n acc s t → Follows P p L 0 (between pc at calls t u) (items_at fuel reader p walk at (record { depth = suc (length s.frames); units = u })) (AllWritten u n acc)
    unfolding items_at
    write_loop zero walk n acc t at u enough none held = absurd (omega arith)
    write_loop (suc fuel) walk n acc t at u enough none held =
        reads_then P p L 0 c0 (next_item walk p at (deep u)) (items_from reader (items_at fuel reader p)) (gathered e c0 n on.inner on.below) (AllWritten u n acc)
        (row_of_instr P p c0 (op.Next e) refl next_here ∙ next_is e c0 walk n on.inner on.below on.is ∙ ap (λ (depth : ℕ). reads P p true c0 (next_item walk p at (record { depth = depth; units = u })) (gathered e c0 n on.inner on.below)) depth_is)
        (by_step (λ walk n acc t at u enough none held. write_loop fuel walk n acc t at u enough none held))
      where
        on : Top P.misses no_buffer length (Blocks walk n) [] acc s t
        on = top P.misses no_buffer length (λ x. refl) (Blocks walk n) (blocks_hold walk n) [] acc s t ready.fit held

        c0 : State
        c0 = between pc at calls t u

        depth_is : length t.frames ≡ suc (length s.frames)
        depth_is = ap length on.is ∙ ap suc on.depth

        current : has_current on.below ≡ true
        current = on.current ∙ ready.current

        by_step : Loops fuel → (o : Option Walk) (to : ℕ) (m : Meter) → next_item walk p at (deep u) ≡ Complete o to m → Leads P p L 0 c0 (gathered e c0 n on.inner on.below o to m) (items_from reader (items_at fuel reader p) o to m) (AllWritten u n acc)
        by_step others None to m is =
            let c = end_meter walk p at to (deep u) m (omega arith) is in
            let lt = (end_takes walk p at to (deep u) m is).1 in
            let same : L * m.units ≡ L * u = ap (λ (n : ℕ). L * n) c.1 in
            let t' = add (items_closed n on.inner) (record t { frames = on.below }) in
            let d = between e to calls t' m.units in
            let after = becomes_so P.misses (acc >>= λ x. Ok (items_closed n x)) (in_one effect n acc []) s t' (closed_in_one effect n acc none) (on.closes (items_closed n) (closed_longer n acc none)) in
            record { new = d; row_is = rw current refl; left = 0; follows = (d, stay P p L 0 d, (t', refl, omega (arith, c.0), omega (arith, c.1), after)); pays = omega (arith, same, lt) }
        by_step others (Some next) to m is =
            let c = item_meter walk next p at to (deep u) m is in
            let le = step_takes walk next p at (deep u) to m is in
            let more : L * m.units ≡ L * u + L = ap (λ (n : ℕ). L * n) c.1 ∙ omega arith in
            let t1 : Store = record t { frames = Blocks next (n + 1) on.inner ∷ on.below } in
            let held1 : HoldsItems next (n + 1) acc s t1 = on.refit (Blocks next (n + 1)) (blocks_hold next (n + 1)) in
            let depth1 : length t1.frames ≡ suc (length s.frames) = ap suc on.depth in
            let m_is : m ≡ meter t1 m.units = same_meter m (meter t1 m.units) (c.0 ∙ sym depth1) refl in
            let on1 = top P.misses no_buffer length (λ x. refl) (Blocks next (n + 1)) (blocks_hold next (n + 1)) [] acc s t1 ready.fit held1 in
            let ready1 : IsReady less calls t1 = record { fit = on1.fits; current = refl; has_room = room_inside left less calls s t1 ready.has_room deeper depth1 } in
            let first = subst (λ (x : Meter). Follows P p L k (between (pc + 1) to calls t1 m.units) (reader to x) (Wrote P p L q calls t1 m.units effect)) (sym m_is) (runs to m.units calls t1 ready1) in
            record {
              new = between (pc + 1) to calls t1 m.units;
              row_is = refl;
              left = k + 1;
              follows = follows_then P p L k 1 (k + 1) (between (pc + 1) to calls t1 m.units) (reader to m) (λ v end after. map_decoding (λ vs. v ∷ vs) (items_at fuel reader p next end after)) (Wrote P p L q calls t1 m.units effect) (AllWritten u n acc) first
                  (λ v end after d h. back others next t1 held1 depth1 m.units (omega (arith, c.1)) (omega (arith, c.2)) v end after d h)
                  (omega arith);
              pays = omega (arith, more, le, short);
            }
          where
            back : Loops fuel → (next : Walk) (t1 : Store) → HoldsItems next (n + 1) acc s t1 → length t1.frames ≡ suc (length s.frames) → (now : ℕ) → now ≡ suc u → u < MOST_UNITS → (v : A) (end : ℕ) (after : Meter) (d : State) → Wrote P p L q calls t1 now effect v end after d → Follows P p L 1 d (map_decoding (λ vs. v ∷ vs) (items_at fuel reader p next end after)) (AllWritten u n acc)
            back others next t1 held1 depth1 now one few v end after d h =
                let acc1 : Resolved (List ℕ) = acc >>= λ c. effect v >>= λ x. Ok (c ++ x) in
                let t2 = h.0 in
                let held2 : HoldsItems next (n + 1) acc1 s t2 = holds_more P.misses no_buffer length (Blocks next (n + 1)) (blocks_hold next (n + 1)) [] (λ x c. c ++ x) (λ x c. refl) acc (effect v) s t1 t2 (λ x c like. add_to_blocks x next (n + 1) c s) held1 h.4 in
                let m_is : after ≡ deep after.units = h.2 ∙ ap (λ (k : ℕ). record { depth = k; units = after.units }) depth1 in
                let enough1 : suc (MOST_UNITS - after.units) ≤ fuel = omega (arith, one, few, h.3, enough) in
                subst (λ (x : State). Follows P p L 1 x (map_decoding (λ vs. v ∷ vs) (items_at fuel reader p next end after)) (AllWritten u n acc)) (sym h.1)
                (follows_map P p L 1 (between q end calls t2 after.units) (items_at fuel reader p next end after) (λ vs. v ∷ vs) (AllWritten after.units (n + 1) acc1) (AllWritten u n acc)
                (subst (λ (x : Meter). Follows P p L 1 (between q end calls t2 after.units) (items_at fuel reader p next end x) (AllWritten after.units (n + 1) acc1)) (sym m_is)
                (row_then P p L 0 1 (between q end calls t2 after.units) (between pc end calls t2 after.units) (items_at fuel reader p next end (deep after.units)) (AllWritten after.units (n + 1) acc1)
                (row_of_instr P p (between q end calls t2 after.units) (op.Jump pc) refl jump_here)
                (others next (n + 1) acc1 t2 end after.units enough1 (λ e. absurd (omega (arith, e))) held2)
                (omega arith)))
                (λ vs end last d g. (g.0, g.1, g.2, omega (arith, g.3, h.3, one), becomes_so P.misses (in_one effect (n + 1) acc1 vs) (in_one effect n acc (v ∷ vs)) s g.0 (in_one_more effect n acc v vs) g.4)))
