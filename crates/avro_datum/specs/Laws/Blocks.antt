-- Arrays and maps as a whole: one level, and the items inside.
use Rattle.std.proofs.Common.{◌≡◌, ◌≢◌, ℕ, suc, ◌+◌, ◌-◌, ◌≤◌, List, ◌++◌, length, drop, Result, refl, ap, ◌∙◌, arith}
use Rattle.spec_avro.specs.declared.meter.Meter.{Meter}
use Rattle.spec_decoding.specs.declared.fault.Fault.{Fault}
use Rattle.spec_decoding.specs.Walk.{first_walk}
use Rattle.spec_avro.specs.Blocks.{IsItems}
use Rattle.spec_avro.specs.Meter.{Counts, OpensBlocks, RefusesBlocks}
use Rattle.spec_decoding.specs.Opening.{closed_blocks, opened_blocks}
use Rattle.avro_bytes.specs.Laws.Binds.{defect_as}
use Rattle.avro_bytes.specs.Laws.BlockEnds.{first_remains}
use Rattle.avro_bytes.specs.Laws.Meters.{blocks_defect, blocks_opened_again, blocks_were_opened, same_meter}
use Rattle.avro_datum.specs.ItemDecoding.{Reader, blocks_at, items_at, steps_left}
use Rattle.spec_avro.specs.ItemFault.{Begins, FaultyBlocks, SpellEach, deepest, units_all}
use Rattle.avro_datum.specs.Laws.Decoders.{Deeper}
use Rattle.avro_datum.specs.Laws.ItemFaults.{AtFault}
use Rattle.avro_datum.specs.Laws.Items.{ReadsSound, ReadsSteady, items_sound, items_steady}
use Rattle.avro_datum.specs.Laws.ItemsFaulty.{items_defect}
use Rattle.avro_datum.specs.Laws.ItemsPassed.{ReadsComplete}
use Rattle.avro_datum.specs.Laws.ItemsTold.{blocks_told, item_fault_told, items_complete}
use Rattle.avro_datum.specs.Laws.Parts.{inside_complete, inside_steady, stands_as}
use Rattle.spec_decoding.specs.Decoding.{Complete, Failed, inside}
use Rattle.avro_bytes.specs.Decoding.{Stands}
use Rattle.spec_avro.specs.Defect.{Defect, Need}
use Rattle.avro_bytes.specs.Fault.{HasDefect, failing}
use Rattle.spec_avro.specs.Fault.{shifted}
use Rattle.spec_avro.specs.declared.limits.TheConstants.{MOST_DEPTH}

module _ {A : Type 0} (Spelled : A → List ℕ → Type 0) (deep units : A → ℕ) where
  -- the blocks spell the values
  abbrev pub SpellBlocks : List A → List ℕ → Type 0
  SpellBlocks vs bytes = (items : List (List ℕ)) × IsItems items bytes × SpellEach Spelled vs items

  module _ (left : ℕ) (all : List ℕ) (reader : Reader A) where
    pub blocks_sound : Deeper (λ less. ReadsSound Spelled deep units less all reader) left → (at : ℕ) (m : Meter) (vs : List A) (to : ℕ) (after : Meter) → left ≡ MOST_DEPTH - m.depth → blocks_at reader all at m ≡ Complete vs to after
        → Stands (SpellBlocks vs) all at to × Counts (deepest deep vs + 1) (units_all units vs) m after
    blocks_sound sound at m vs to after l e =
        let o = inside_complete (opened_blocks at m) (λ within. items_at (steps_left within) reader all (first_walk at) at within) vs to after e in
        let b = blocks_were_opened at m o.0 o.1 in
        let s = items_sound Spelled deep units (MOST_DEPTH - suc m.depth) all reader (sound (MOST_DEPTH - suc m.depth) (omega (arith, l, b.shallow))) (steps_left o.0) (first_walk at) at o.0 vs to after (omega (arith, b.deeper)) (omega (arith, b.deeper)) o.2 in (
          stands_as (λ bytes r. (r.0, first_remains at at r.0 bytes r.1, r.2)) s.stands,
          record {
            deep = omega (arith, s.levels, b.shallow, b.deeper);
            many = omega (arith, s.many, b.same_units);
            same_depth = omega (arith, s.closed, b.deeper);
            counted = omega (arith, s.counted, b.same_units);
          },
        )

    pub blocks_complete : Deeper (λ less. ReadsComplete Spelled deep units less all reader) left → (vs : List A) (before bytes rest : List ℕ) (m after : Meter) → left ≡ MOST_DEPTH - m.depth → all ≡ before ++ (bytes ++ rest) → SpellBlocks vs bytes → Counts (deepest deep vs + 1) (units_all units vs) m after
        → blocks_at reader all (length before) m ≡ Complete vs (length before + length bytes) after
    blocks_complete complete vs before bytes rest m after l is s t =
        let within : Meter = record { depth = m.depth + 1; units = m.units } in
        let last : Meter = record { depth = m.depth + 1; units = after.units } in
        let opens = blocks_opened_again (length before) m within (record { shallow = omega (arith, t.deep); deeper = refl; same_units = refl }) in
        let each = items_complete Spelled deep units (MOST_DEPTH - suc m.depth) all reader (complete (MOST_DEPTH - suc m.depth) (omega (arith, l, t.deep))) (steps_left within) s.0 vs before bytes rest within last (omega arith) (omega arith) is s.1 s.2
        (record { deep = omega (arith, t.deep); many = omega (arith, t.many); same_depth = refl; counted = omega (arith, t.counted) }) in
        ap (λ (r : Result Meter Fault). inside r (λ within. items_at (steps_left within) reader all (first_walk (length before)) (length before) within)) opens
        ∙ each ∙ ap (Complete vs (length before + length bytes)) (same_meter (closed_blocks last) after (omega (arith, t.same_depth)) refl)

    pub blocks_steady : (more : List ℕ) (further : Reader A) → Deeper (λ less. ReadsSound Spelled deep units less all reader) left → ((less : ℕ) → left ≡ suc less → (sound : ReadsSound Spelled deep units less all reader) → ReadsSteady Spelled deep units less all reader sound further)
        → (at : ℕ) (m : Meter) → left ≡ MOST_DEPTH - m.depth → at ≤ length all → blocks_at reader all at m ≢ Failed Need → blocks_at further (all ++ more) at m ≡ blocks_at reader all at m
    blocks_steady more further sound steady at m l le c =
        inside_steady (opened_blocks at m) (λ within. items_at (steps_left within) reader all (first_walk at) at within) (λ within. items_at (steps_left within) further (all ++ more) (first_walk at) at within)
        (λ within o c.
        let b = blocks_were_opened at m within o in
        let same : left ≡ suc (MOST_DEPTH - suc m.depth) = omega (arith, l, b.shallow) in
        items_steady Spelled deep units (MOST_DEPTH - suc m.depth) all reader (sound (MOST_DEPTH - suc m.depth) same) more further (steady (MOST_DEPTH - suc m.depth) same (sound (MOST_DEPTH - suc m.depth) same)) (steps_left within) (first_walk at) at within (omega (arith, b.deeper)) le c)
        c

    pub blocks_have_defect : (Faulty : List ℕ → Meter → Defect → Type 0) (P : Defect → Type 0) → Deeper (λ less. ReadsSound Spelled deep units less all reader) left → Deeper (λ less. (at : ℕ) (m : Meter) → less ≡ MOST_DEPTH - m.depth → HasDefect (reader at m) at (Faulty (drop at all) m)) left
        → (at : ℕ) (m : Meter) → left ≡ MOST_DEPTH - m.depth → ((d : Defect) → RefusesBlocks m d → P d) → ((within : Meter) → OpensBlocks m within → (d : Defect) → AtFault Spelled deep units Faulty (drop at all) within d → P d) → HasDefect (blocks_at reader all at m) at P
    blocks_have_defect Faulty P sound faulty at m l refused faults =
        blocks_defect (λ within. items_at (steps_left within) reader all (first_walk at) at within) at m P refused
        (λ within o.
        let same : left ≡ suc (MOST_DEPTH - suc m.depth) = omega (arith, l, o.shallow) in
        defect_as (items_at (steps_left within) reader all (first_walk at) at within) at (AtFault Spelled deep units Faulty (drop at all) within) P (faults within o)
        (items_defect Spelled deep units Faulty all at within (MOST_DEPTH - suc m.depth) reader (sound (MOST_DEPTH - suc m.depth) same) (faulty (MOST_DEPTH - suc m.depth) same) (steps_left within) (omega arith) (omega (arith, o.deeper))))

    module _ (complete : Deeper (λ less. ReadsComplete Spelled deep units less all reader) left) (before bytes : List ℕ) (m within : Meter) (l : left ≡ MOST_DEPTH - m.depth) (is : all ≡ before ++ bytes) (o : OpensBlocks m within) where
      entered : (d : Defect) → items_at (steps_left within) reader all (first_walk (length before)) (length before) within ≡ failing (length before) d → blocks_at reader all (length before) m ≡ failing (length before) d
      entered d e = ap (λ (r : Result Meter Fault). inside r (λ within. items_at (steps_left within) reader all (first_walk (length before)) (length before) within)) (blocks_opened_again (length before) m within o) ∙ e

      pub around_told : (d : Defect) → FaultyBlocks Spelled deep units bytes within d → blocks_at reader all (length before) m ≡ failing (length before) d
      around_told d h =
          entered d (blocks_told Spelled deep units (MOST_DEPTH - suc m.depth) all reader (complete (MOST_DEPTH - suc m.depth) (omega (arith, l, o.shallow))) (steps_left within) before bytes within (omega arith) (omega (arith, o.deeper)) is d h)

      pub within_told : (front rest : List ℕ) (opened : Meter) (inner d : Defect) → Begins Spelled deep units bytes within front rest opened → reader (length before + length front) opened ≡ failing (length before + length front) inner → d ≡ shifted (length front) inner → blocks_at reader all (length before) m ≡ failing (length before) d
      within_told front rest opened inner d h e place =
          entered d (item_fault_told Spelled deep units (MOST_DEPTH - suc m.depth) all reader (complete (MOST_DEPTH - suc m.depth) (omega (arith, l, o.shallow))) (steps_left within) before bytes within (omega arith) (omega (arith, o.deeper)) is front rest opened inner d h e place)
