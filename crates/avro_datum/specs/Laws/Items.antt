-- The items of an array or a map: what is read is spelled so, and what is decided stays so.
use Rattle.std.proofs.Common.{◌≡◌, ◌≢◌, ℕ, zero, suc, ◌+◌, ◌-◌, ◌<◌, ◌≤◌, List, [], ◌∷◌, ◌++◌, length, Option, Some, None, refl, sym, ap, subst, ◌∙◌, arith}
use Rattle.spec_decoding.specs.Walk.{Walk}
use Rattle.spec_avro.specs.declared.meter.Meter.{Meter}
use Rattle.spec_decoding.specs.BlockDecoding.{next_item}
use Rattle.avro_bytes.specs.Walking.{Remains, Leads}
use Rattle.spec_avro.specs.Meter.{Counts}
use Rattle.avro_bytes.specs.Laws.Binds.{complete_is, stands_within, then_complete, then_steady}
use Rattle.avro_bytes.specs.Laws.BlockEnds.{end_sound}
use Rattle.avro_bytes.specs.Laws.BlockSteps.{joined_stands as led_stands, step_sound}
use Rattle.avro_bytes.specs.Laws.BlocksSame.{walk_steady}
use Rattle.avro_bytes.specs.Laws.Walks.{end_meter, item_meter}
use Rattle.avro_datum.specs.ItemDecoding.{Reader, items_at, items_from}
use Rattle.spec_avro.specs.ItemFault.{SpellEach, deepest, units_all}
use Rattle.avro_datum.specs.Laws.Parts.{map_steady, mapped, stands_as}
use Rattle.spec_decoding.specs.Decoding.{Complete, Failed}
use Rattle.avro_bytes.specs.Decoding.{Stands, map_decoding}
use Rattle.spec_avro.specs.Defect.{Need}
use Rattle.spec_avro.specs.declared.limits.TheConstants.{MOST_DEPTH, MOST_UNITS}

module _ {A : Type 0} (Spelled : A → List ℕ → Type 0) (deep units : A → ℕ) where
  -- what a reader gives is spelled so, where `left` more records, arrays and maps may be opened
  abbrev pub ReadsSound : ℕ → List ℕ → Reader A → Type 0
  ReadsSound left all reader = (at : ℕ) (m : Meter) (v : A) (to : ℕ) (after : Meter) → left ≡ MOST_DEPTH - m.depth → reader at m ≡ Complete v to after → Stands (Spelled v) all at to × Counts (deep v) (units v) m after

  -- the items that remain to a walk spell the values, and the end comes after them
  abbrev pub SpellRest : Walk → ℕ → List A → List ℕ → Type 0
  SpellRest walk at vs bytes = (items : List (List ℕ)) × Remains walk at items bytes × SpellEach Spelled vs items

  pub record ItemsStand (all : List ℕ) (walk : Walk) (at : ℕ) (m : Meter) (vs : List A) (to : ℕ) (after : Meter) : Type 0 where
    pub stands : Stands (SpellRest walk at vs) all at to
    pub levels : deepest deep vs ≤ MOST_DEPTH - m.depth
    pub many : units_all units vs ≤ MOST_UNITS - m.units
    pub closed : after.depth + 1 ≡ m.depth
    pub counted : after.units ≡ m.units + units_all units vs

  none_stand : (all : List ℕ) (walk : Walk) (at : ℕ) (m : Meter) (to : ℕ) (after : Meter) → 0 < m.depth → next_item walk all at m ≡ Complete None to after → ItemsStand all walk at m [] to after
  none_stand all walk at m to after nested e =
      let w = end_meter walk all at to m after nested e in
      record {
        stands = stands_as (λ bytes r. ([], r, tt)) (end_sound walk all at m to after e);
        levels = omega arith;
        many = omega arith;
        closed = w.0;
        counted = omega (arith, w.1);
      }

  one_more_stands : (all : List ℕ) (walk next : Walk) (at mid end to : ℕ) (m opened last after : Meter) (v : A) (vs : List A)
      → next_item walk all at m ≡ Complete (Some next) mid opened → Stands (Spelled v) all mid end → Counts (deep v) (units v) opened last → ItemsStand all next end last vs to after
      → ItemsStand all walk at m (v ∷ vs) to after
  one_more_stands all walk next at mid end to m opened last after v vs e s c others =
      let i = item_meter walk next all at mid m opened e in
      let lead = step_sound walk all at m next mid opened e in
      let rest : Stands (λ b. SpellRest walk at (v ∷ vs) (lead.bytes ++ (s.bytes ++ b))) all end to =
      stands_as (λ b r. (s.bytes ∷ r.0, lead.spelled s.bytes r.0 b (subst (λ (k : ℕ). Remains next k r.0 b) s.end r.1), (s.spelled, r.2))) others.stands in
      let beyond : Stands (λ b. SpellRest walk at (v ∷ vs) (lead.bytes ++ b)) all mid to = led_stands (λ b. SpellRest walk at (v ∷ vs) (lead.bytes ++ b)) all s.bytes s.rest mid end to s.parts s.end rest in
      record {
        stands = led_stands (SpellRest walk at (v ∷ vs)) all lead.bytes lead.rest at mid to lead.parts lead.end beyond;
        levels = omega (arith, c.deep, others.levels, i.0, c.same_depth);
        many = omega (arith, c.many, others.many, i.1, i.2, c.counted);
        closed = omega (arith, others.closed, c.same_depth, i.0);
        counted = omega (arith, others.counted, c.counted, i.1);
      }

  module _ (left : ℕ) (all : List ℕ) (reader : Reader A) (sound : ReadsSound left all reader) where
    abbrev SoundWithin : ℕ → Type 0
    SoundWithin fuel = (walk : Walk) (at : ℕ) (m : Meter) (vs : List A) (to : ℕ) (after : Meter) → left ≡ MOST_DEPTH - m.depth → 0 < m.depth → items_at fuel reader all walk at m ≡ Complete vs to after → ItemsStand all walk at m vs to after

    from_sound : (fuel : ℕ) → SoundWithin fuel → (walk : Walk) (at : ℕ) (m : Meter) (step : Option Walk) (mid : ℕ) (opened : Meter) (vs : List A) (to : ℕ) (after : Meter) → left ≡ MOST_DEPTH - m.depth → 0 < m.depth → next_item walk all at m ≡ Complete step mid opened → items_from reader (items_at fuel reader all) step mid opened ≡ Complete vs to after → ItemsStand all walk at m vs to after
    from_sound fuel others_sound walk at m None mid opened vs to after l nested e f =
        let w = complete_is f in
        subst (λ (x : List A). ItemsStand all walk at m x to after) w.0 (subst (λ (k : ℕ). ItemsStand all walk at m [] k after) w.1 (subst (ItemsStand all walk at m [] mid) w.2 (none_stand all walk at m mid opened nested e)))
    from_sound fuel others_sound walk at m (Some next) mid opened vs to after l nested e f =
        let u = then_complete (reader mid opened) (λ v to after. map_decoding (λ vs. v ∷ vs) (items_at fuel reader all next to after)) vs to after f in
        let r = mapped (λ vs. u.first ∷ vs) (items_at fuel reader all next u.mid u.meter) vs to after u.next_is in
        let i = item_meter walk next all at mid m opened e in
        let s = sound mid opened u.first u.mid u.meter (l ∙ ap (λ (k : ℕ). MOST_DEPTH - k) (sym i.0)) u.first_is in
        let others = others_sound next u.mid u.meter r.0 to after (l ∙ ap (λ (k : ℕ). MOST_DEPTH - k) (sym (s.1.same_depth ∙ i.0))) (omega (arith, s.1.same_depth, i.0)) r.1 in
        subst (λ (x : List A). ItemsStand all walk at m x to after) (sym r.2) (one_more_stands all walk next at mid u.mid to m opened u.meter after u.first r.0 e s.0 s.1 others)

    pub items_sound : (fuel : ℕ) → SoundWithin fuel
    unfolding items_at
    items_sound zero walk at m vs to after l nested e = absurd cc
    items_sound (suc fuel) walk at m vs to after l nested e =
        let t = then_complete (next_item walk all at m) (items_from reader (items_at fuel reader all)) vs to after e in
        from_sound fuel (items_sound fuel) walk at m t.first t.mid t.meter vs to after l nested t.first_is t.next_is

    -- ---- steady

    -- what a reader has decided, another decides on more bytes
    abbrev pub ReadsSteady : Reader A → Type 0
    ReadsSteady further = (at : ℕ) (m : Meter) → left ≡ MOST_DEPTH - m.depth → at ≤ length all → reader at m ≢ Failed Need → further at m ≡ reader at m

    module _ (more : List ℕ) (further : Reader A) (steady : ReadsSteady further) where
      abbrev SteadyWithin : ℕ → Type 0
      SteadyWithin fuel = (walk : Walk) (at : ℕ) (m : Meter) → left ≡ MOST_DEPTH - m.depth → at ≤ length all → items_at fuel reader all walk at m ≢ Failed Need → items_at fuel further (all ++ more) walk at m ≡ items_at fuel reader all walk at m

      from_steady : (fuel : ℕ) → SteadyWithin fuel → (walk : Walk) (at : ℕ) (m : Meter) (step : Option Walk) (mid : ℕ) (opened : Meter) → left ≡ MOST_DEPTH - m.depth → at ≤ length all → next_item walk all at m ≡ Complete step mid opened → items_from reader (items_at fuel reader all) step mid opened ≢ Failed Need
          → items_from further (items_at fuel further (all ++ more)) step mid opened ≡ items_from reader (items_at fuel reader all) step mid opened
      from_steady fuel others_steady walk at m None mid opened l le e c = refl
      from_steady fuel others_steady walk at m (Some next) mid opened l le e c =
          let i = item_meter walk next all at mid m opened e in
          let here : left ≡ MOST_DEPTH - opened.depth = l ∙ ap (λ (k : ℕ). MOST_DEPTH - k) (sym i.0) in
          let within : mid ≤ length all = stands_within (Leads walk at next mid) all at mid le (step_sound walk all at m next mid opened e) in
          then_steady (reader mid opened) (further mid opened)
          (λ v to after. map_decoding (λ vs. v ∷ vs) (items_at fuel reader all next to after))
          (λ v to after. map_decoding (λ vs. v ∷ vs) (items_at fuel further (all ++ more) next to after))
          (steady mid opened here within)
          (λ v end last f d.
          let s = sound mid opened v end last here f in
          map_steady (λ vs. v ∷ vs) (items_at fuel reader all next end last) (items_at fuel further (all ++ more) next end last)
          (others_steady next end last (here ∙ ap (λ (k : ℕ). MOST_DEPTH - k) (sym s.1.same_depth)) (stands_within (Spelled v) all mid end within s.0)) d)
          c

      pub items_steady : (fuel : ℕ) → SteadyWithin fuel
      unfolding items_at
      items_steady zero walk at m l le c = absurd (c refl)
      items_steady (suc fuel) walk at m l le c =
          then_steady (next_item walk all at m) (next_item walk (all ++ more) at m) (items_from reader (items_at fuel reader all)) (items_from further (items_at fuel further (all ++ more)))
          (walk_steady walk all more at m le) (λ step mid opened e c. from_steady fuel (items_steady fuel) walk at m step mid opened l le e c) c
