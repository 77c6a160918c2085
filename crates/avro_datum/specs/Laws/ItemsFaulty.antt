-- Where reading the items of an array or a map gives none, what it reports is their first fault.
use Rattle.std.proofs.Common.{◌≡◌, ℕ, zero, suc, ◌+◌, ◌-◌, ◌<◌, List, [], ◌∷◌, ◌++◌, length, drop, Option, Some, None, ℤ, pos, refl, sym, ap, subst, ◌∙◌, append_assoc, arith, inl, inr}
use Rattle.std.proofs.lemmas.List.{length-append}
use Rattle.spec_decoding.specs.Walk.{Walk, first_walk}
use Rattle.spec_avro.specs.declared.malformed.MalformedKind.TheVariants.{BadBlock}
use Rattle.spec_avro.specs.declared.meter.Meter.{Meter}
use Rattle.spec_decoding.specs.BlockDecoding.{next_block, next_item}
use Rattle.spec_avro.specs.BlockFault.{FaultyHead}
use Rattle.avro_bytes.specs.Walking.{IsMet}
use Rattle.spec_avro.specs.Blocks.{joined, IsHead}
use Rattle.spec_avro.specs.Meter.{RefusesItem}
use Rattle.avro_bytes.specs.Laws.Binds.{rest_after, defect_after, defect_map, defect_then}
use Rattle.avro_bytes.specs.Laws.BlockDefects.{bad_block_told, decide_met, head_defect, within_defect}
use Rattle.avro_datum.specs.ItemDecoding.{Reader, items_at, items_from}
use Rattle.spec_avro.specs.ItemFault.{IsBadBlock, IsRefusedItem}
use Rattle.avro_datum.specs.Laws.ItemFaults.{AtFault, InBlock, Reached, begins, closed, reached_more}
use Rattle.avro_datum.specs.Laws.Items.{ReadsSound}
use Rattle.avro_datum.specs.Laws.ItemsAdvanced.{advance}
use Rattle.spec_decoding.specs.Decoding.{Complete}
use Rattle.avro_bytes.specs.Decoding.{map_decoding}
use Rattle.spec_avro.specs.Defect.{Defect, Malformed}
use Rattle.avro_bytes.specs.Fault.{HasDefect}
use Rattle.spec_avro.specs.Fault.{shifted}
use Rattle.spec_avro.specs.declared.limits.TheConstants.{MOST_DEPTH, MOST_UNITS}
use Rattle.avro_bytes.specs.Laws.BlocksAgain.{met_end}

module _ {A : Type 0} (Spelled : A → List ℕ → Type 0) (deep units : A → ℕ) (Faulty : List ℕ → Meter → Defect → Type 0) where
  module _ (all : List ℕ) (start : ℕ) (m0 : Meter) where
    abbrev Fault : Defect → Type 0
    Fault = AtFault Spelled deep units Faulty (drop start all) m0

    -- ---- no item is come to

    refused : (left : ℕ) (walk : Walk) (at : ℕ) (m : Meter) (r : Reached Spelled deep units all start m0 (record walk { left = suc left }) at m) (d : Defect) → RefusesItem m d → Fault (shifted (length (r.earlier ++ (r.head ++ joined r.now))) d)
    refused left walk at m r d h = refusing r.state
      where
        refusing : InBlock Spelled deep units all start m0 (record walk { left = suc left }) r.now r.said r.head r.earlier → Fault (shifted (length (r.earlier ++ (r.head ++ joined r.now))) d)
        refusing (inl f) = absurd (let none : suc left ≡ 0 = ap (λ (w : Walk). w.left) f.2 in omega (arith, none))
        refusing (inr w) =
            let refusal : IsRefusedItem Spelled deep units (drop start all) m0 (shifted (length (r.earlier ++ (r.head ++ joined r.now))) d) = record {
              front = r.earlier ++ (r.head ++ joined r.now);
              rest = r.rest;
              after = m;
              inner = d;
              here = record { blocks = r.blocks; now = r.now; left = left; said = r.said; before = r.earlier; head = r.head; parts = r.parts; place = refl; whole = r.whole; begins = w.1; spelled = record { values = r.vs; each = r.each; counts = r.counts } };
              refused = h;
              where_it_is = refl;
            } in
            inl (inr (inl refusal))

    bad_block : (walk : Walk) (at : ℕ) (m : Meter) (r : Reached Spelled deep units all start m0 (record walk { left = 0 }) at m) → ¬ (IsMet walk at) → HasDefect (next_item (record walk { left = 0 }) all at m) start Fault
    bad_block walk at m r unmet = subst (λ x. HasDefect x start Fault) (sym (bad_block_told (record walk { left = 0 }) all at m refl unmet)) (badly r.said r.state)
      where
        badly : (said : Option ℤ) → InBlock Spelled deep units all start m0 (record walk { left = 0 }) r.now said r.head r.earlier → (offset : ℕ) × (walk.count_at ≡ start + offset) × Fault (Malformed BadBlock offset)
        badly said (inl f) = absurd (unmet (subst (λ (w : Walk). IsMet w at) (sym f.2) tt))
        badly None (inr w) = absurd (unmet (subst (λ (w : Walk). IsMet w at) (sym w.2) tt))
        badly (Some size) (inr w) =
            let len : at - ((start + length r.earlier) + length r.head) ≡ length (joined r.now) = omega (arith, r.place, length-append r.earlier (r.head ++ joined r.now), length-append r.head (joined r.now)) in
            let bad : IsBadBlock Spelled deep units (drop start all) m0 (Malformed BadBlock (length r.earlier)) = record {
              blocks = r.blocks;
              now = r.now;
              size = size;
              before = r.earlier;
              head = r.head;
              rest = r.rest;
              after = m;
              parts = r.parts ∙ append_assoc r.earlier (r.head ++ joined r.now) r.rest ∙ ap (λ (x : List ℕ). r.earlier ++ x) (append_assoc r.head (joined r.now) r.rest);
              whole = r.whole;
              begins = subst (λ (k : ℕ). IsHead k (Some size) r.head) (let e : length r.now + 0 ≡ length r.now = omega arith in e) w.1;
              some = w.0;
              spelled = record { values = r.vs; each = r.each; counts = r.counts };
              wrong = λ e. unmet (subst (λ (x : Walk). IsMet x at) (sym w.2) (e ∙ ap pos (sym len)));
              where_it_is = refl;
            } in
            (length r.earlier, ap (λ (x : Walk). x.count_at) w.2, inl (inr (inr bad)))

    next_defect : (left : ℕ) (walk : Walk) (at : ℕ) (m : Meter) → Reached Spelled deep units all start m0 (record walk { left = left }) at m → HasDefect (next_item (record walk { left = left }) all at m) start Fault
    next_defect (suc left) walk at m r =
        defect_after (next_item (record walk { left = suc left }) all at m) start (length (r.earlier ++ (r.head ++ joined r.now))) at (RefusesItem m) Fault r.place (refused left walk at m r) (within_defect (record walk { left = suc left }) all at m (omega arith))
    next_defect zero walk at m r =
        elim (decide_met walk at) [
          | inr unmet ↦ bad_block walk at m r unmet
          | inl met ↦ (
              let b = closed Spelled deep units all start m0 walk at m r met in
              let here : drop at all ≡ r.rest = rest_after (r.earlier ++ (r.head ++ joined r.now)) r.rest all start at r.parts r.place in
              subst (λ x. HasDefect x start Fault) (sym (met_end walk all at m met))
              (defect_after (next_block all at m) start (length (r.earlier ++ (r.head ++ joined r.now))) at (FaultyHead (drop at all) m) Fault r.place
              (λ d h. inl (inl (record { front = r.earlier ++ (r.head ++ joined r.now); rest = r.rest; after = m; inner = d; stands = b; faulty = subst (λ (x : List ℕ). FaultyHead x m d) here h; where_it_is = refl })))
              (head_defect all at m)))
        ]

    -- ---- one item after another

    module _ (left : ℕ) (reader : Reader A) (sound : ReadsSound Spelled deep units left all reader) (faulty : (at : ℕ) (m : Meter) → left ≡ MOST_DEPTH - m.depth → HasDefect (reader at m) at (Faulty (drop at all) m)) where
      abbrev DefectWithin : ℕ → Type 0
      DefectWithin fuel = (walk : Walk) (at : ℕ) (m : Meter) → Reached Spelled deep units all start m0 walk at m → MOST_UNITS - m.units < fuel → left ≡ MOST_DEPTH - m.depth → HasDefect (items_at fuel reader all walk at m) start Fault

      from_defect : (fuel : ℕ) → DefectWithin fuel → (walk : Walk) (at : ℕ) (m : Meter) (step : Option Walk) (mid : ℕ) (opened : Meter) → Reached Spelled deep units all start m0 walk at m → MOST_UNITS - m.units < suc fuel → left ≡ MOST_DEPTH - m.depth → next_item walk all at m ≡ Complete step mid opened → HasDefect (items_from reader (items_at fuel reader all) step mid opened) start Fault
      from_defect fuel others walk at m None mid opened r enough l e = tt
      from_defect fuel others walk at m (Some next) mid opened r enough l e =
          let a = advance Spelled deep units all start m0 walk.left walk at m next mid opened r e in
          let front = a.earlier ++ (a.head ++ joined a.now) in
          let here : drop mid all ≡ a.rest = rest_after (a.earlier ++ (a.head ++ joined a.now)) a.rest all start mid a.parts a.place in
          let still : left ≡ MOST_DEPTH - opened.depth = l ∙ ap (λ (k : ℕ). MOST_DEPTH - k) (sym a.opens.same_depth) in
          defect_then (reader mid opened) (λ v to after. map_decoding (λ vs. v ∷ vs) (items_at fuel reader all next to after)) start Fault
          (defect_after (reader mid opened) start (length (a.earlier ++ (a.head ++ joined a.now))) mid (Faulty (drop mid all) opened) Fault a.place
          (λ d h. inr (record { front = a.earlier ++ (a.head ++ joined a.now); rest = a.rest; opened = opened; inner = d; begins = begins Spelled deep units all start m0 m next mid opened a; faulty = subst (λ (x : List ℕ). Faulty x opened d) here h; where_it_is = refl }))
          (faulty mid opened still))
          (λ v end last f.
          let s = sound mid opened v end last still f in
          defect_map (λ vs. v ∷ vs) (items_at fuel reader all next end last) start Fault
          (others next end last (reached_more Spelled deep units all start m0 m next mid end opened last v a s.0 s.1) (omega (arith, enough, a.opens.few, a.opens.counted, s.1.counted)) (still ∙ ap (λ (k : ℕ). MOST_DEPTH - k) (sym s.1.same_depth))))

      items_defect_from : (fuel : ℕ) → DefectWithin fuel
      unfolding items_at
      items_defect_from zero walk at m r enough l = absurd (omega (arith, enough))
      items_defect_from (suc fuel) walk at m r enough l =
          defect_then (next_item walk all at m) (items_from reader (items_at fuel reader all)) start Fault (next_defect walk.left walk at m r)
          (λ step mid opened e. from_defect fuel (items_defect_from fuel) walk at m step mid opened r enough l e)

      pub items_defect : (fuel : ℕ) → MOST_UNITS - m0.units < fuel → left ≡ MOST_DEPTH - m0.depth → HasDefect (items_at fuel reader all (first_walk start) start m0) start Fault
      items_defect fuel enough l = items_defect_from fuel (first_walk start) start m0 (record {
        blocks = [];
        now = [];
        said = None;
        earlier = [];
        head = [];
        rest = drop start all;
        vs = [];
        parts = refl;
        place = omega arith;
        whole = refl;
        each = tt;
        counts = record { deep = omega arith; many = omega arith; same_depth = refl; counted = omega arith };
        state = inl (refl, refl, refl);
      }) enough l
