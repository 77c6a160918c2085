-- The loop over items that are passed over, whatever reads an item.
use Rattle.std.proofs.Common.{◌≡◌, ℕ, zero, suc, ◌+◌, ◌-◌, ◌*◌, ◌≤◌, ◌<◌, List, ◌∷◌, length, Option, Some, None, refl, sym, ap, ◌∙◌, subst, arith, slice_get}
use Rattle.spec_avro.specs.declared.limits.TheConstants.{MOST_UNITS}
use Rattle.spec_avro.specs.declared.meter.Meter.{Meter}
use Rattle.spec_decoding.specs.BlockDecoding.{next_item}
use Rattle.spec_decoding.specs.Decoding.{Complete}
use Rattle.avro_bytes.specs.Decoding.{map_decoding}
use Rattle.spec_decoding.specs.Walk.{Walk}
use Rattle.avro_bytes.specs.Laws.BlockSteps.{step_sound}
use Rattle.avro_bytes.specs.Laws.Meters.{same_meter}
use Rattle.avro_bytes.specs.Laws.Walks.{end_meter, end_takes, item_meter}
use Rattle.avro_datum.specs.ItemDecoding.{Reader, items_at, items_from}
use Rattle.spec_machine.specs.declared.instr.Instr.TheVariants as op
use Rattle.spec_machine.specs.Program.{Program}
use Rattle.spec_machine.specs.State.{SkipBlocks, State, Store}
use Rattle.spec_machine.specs.Table.{passed}
use Rattle.program_correctness.proofs.Follow.{Follows, Leads, follows_map, follows_then, reads_then, row_then, stay}
use Rattle.program_correctness.proofs.Plain.{between, row_of_instr}
use Rattle.program_correctness.proofs.Stores.{opened}

pub step_takes : (walk next : Walk) (p : List ℕ) (at : ℕ) (m : Meter) (to : ℕ) (after : Meter) → next_item walk p at m ≡ Complete (Some next) to after → at ≤ to
step_takes walk next p at m to after e = let s = step_sound walk p at m next to after e in omega (arith, s.end)

module _ (P : Program) (p : List ℕ) (L : ℕ) where
  module _ {A : Type 0} (reader : Reader A) (pc e q k : ℕ) (calls : List ℕ) (s : Store)
      (next_here : slice_get P.code pc ≡ Some (op.SkipNext e)) (jump_here : slice_get P.code q ≡ Some (op.Jump pc)) (short : k + 2 ≤ L) where
    abbrev on : Walk → Store
    on walk = opened (SkipBlocks walk) s

    abbrev deep : ℕ → Meter
    deep u = record { depth = suc (length s.frames); units = u }

    abbrev pub ItemPassed : Walk → ℕ → A → ℕ → Meter → State → Type 0
    ItemPassed walk u v to m d = (d ≡ between q to calls (opened (SkipBlocks walk) s) m.units) × (m ≡ record { depth = suc (length s.frames); units = m.units }) × (u ≤ m.units)

    abbrev pub AllPassed : ℕ → List A → ℕ → Meter → State → Type 0
    AllPassed u vs to m d = (d ≡ between e to calls s m.units) × (m.depth ≡ length s.frames) × (u ≤ m.units)

    abbrev Loops : ℕ → Type 0
    Loops fuel = (walk : Walk) (at u : ℕ) → suc (MOST_UNITS - u) ≤ fuel → Follows P p L 0 (between pc at calls (on walk) u) (items_at fuel reader p walk at (deep u)) (AllPassed u)

    module _ (item : (walk : Walk) (at u : ℕ) → Follows P p L k (between (pc + 1) at calls (on walk) u) (reader at (deep u)) (ItemPassed walk u)) where
      pub skip_loop : (fuel : ℕ) (walk : Walk) (at u : ℕ) → suc (MOST_UNITS - u) ≤ fuel → Follows P p L 0 (between pc at calls (opened (SkipBlocks walk) s) u) (items_at fuel reader p walk at (record { depth = suc (length s.frames); units = u })) (AllPassed u)
      unfolding items_at
      skip_loop zero walk at u enough = absurd (omega arith)
      skip_loop (suc fuel) walk at u enough =
          reads_then P p L 0 c0 (next_item walk p at (deep u)) (items_from reader (items_at fuel reader p)) (passed e c0 s.frames) (AllPassed u)
          (row_of_instr P p c0 (op.SkipNext e) refl next_here)
          (by_step (λ walk at u enough. skip_loop fuel walk at u enough))
        where
          c0 : State
          c0 = between pc at calls (on walk) u

          by_step : Loops fuel → (o : Option Walk) (to : ℕ) (m : Meter) → next_item walk p at (deep u) ≡ Complete o to m → Leads P p L 0 c0 (passed e c0 s.frames o to m) (items_from reader (items_at fuel reader p) o to m) (AllPassed u)
          by_step others None to m is =
              let c = end_meter walk p at to (deep u) m (omega arith) is in
              let lt = (end_takes walk p at to (deep u) m is).1 in
              let same : L * m.units ≡ L * u = ap (λ (n : ℕ). L * n) c.1 in
              let d = between e to calls s m.units in
              record { new = d; row_is = refl; left = 0; follows = (d, stay P p L 0 d, (refl, omega (arith, c.0), omega (arith, c.1))); pays = omega (arith, same, lt) }
          by_step others (Some next) to m is =
              let c = item_meter walk next p at to (deep u) m is in
              let le = step_takes walk next p at (deep u) to m is in
              let m_is : m ≡ deep m.units = same_meter m (deep m.units) c.0 refl in
              let more : L * m.units ≡ L * u + L = ap (λ (n : ℕ). L * n) c.1 ∙ omega arith in
              let first = subst (λ (x : Meter). Follows P p L k (between (pc + 1) to calls (on next) m.units) (reader to x) (ItemPassed next m.units)) (sym m_is) (item next to m.units) in
              record {
                new = between (pc + 1) to calls (on next) m.units;
                row_is = refl;
                left = k + 1;
                follows = follows_then P p L k 1 (k + 1) (between (pc + 1) to calls (on next) m.units) (reader to m) (λ v end after. map_decoding (λ vs. v ∷ vs) (items_at fuel reader p next end after)) (ItemPassed next m.units) (AllPassed u) first
                    (λ v end after d h. back others next m.units (omega (arith, c.1)) (omega (arith, c.2)) v end after d h)
                    (omega arith);
                pays = omega (arith, more, le, short);
              }
            where
              back : Loops fuel → (next : Walk) (now : ℕ) → now ≡ suc u → u < MOST_UNITS → (v : A) (end : ℕ) (after : Meter) (d : State) → ItemPassed next now v end after d → Follows P p L 1 d (map_decoding (λ vs. v ∷ vs) (items_at fuel reader p next end after)) (AllPassed u)
              back others next now one few v end after d h =
                  subst (λ (x : State). Follows P p L 1 x (map_decoding (λ vs. v ∷ vs) (items_at fuel reader p next end after)) (AllPassed u)) (sym h.0)
                  (follows_map P p L 1 (between q end calls (on next) after.units) (items_at fuel reader p next end after) (λ vs. v ∷ vs) (AllPassed after.units) (AllPassed u)
                  (subst (λ (x : Meter). Follows P p L 1 (between q end calls (on next) after.units) (items_at fuel reader p next end x) (AllPassed after.units)) (sym h.1)
                  (row_then P p L 0 1 (between q end calls (on next) after.units) (between pc end calls (on next) after.units) (items_at fuel reader p next end (deep after.units)) (AllPassed after.units)
                  (row_of_instr P p (between q end calls (on next) after.units) (op.Jump pc) refl jump_here)
                  (others next end after.units (omega (arith, one, few, h.2, enough)))
                  (omega arith)))
                  (λ vs end last d t. (t.0, t.1, omega (arith, t.2, h.2, one))))
