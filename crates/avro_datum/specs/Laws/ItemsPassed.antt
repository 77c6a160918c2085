-- Reading passes over items that are spelled: within a block, over whole blocks, and into another.
use Rattle.std.proofs.Common.{◌≡◌, ℕ, zero, suc, ◌+◌, ◌-◌, ◌<◌, ◌≤◌, List, [], ◌∷◌, ◌++◌, length, Option, Some, Result, ℤ, refl, sym, ap, subst, ◌∙◌, append_assoc, arith}
use Rattle.std.proofs.lemmas.List.{length-append}
use Rattle.spec_decoding.specs.Walk.{Walk}
use Rattle.spec_decoding.specs.declared.fault.Fault.{Fault}
use Rattle.spec_avro.specs.declared.meter.Meter.{Meter}
use Rattle.spec_decoding.specs.BlockDecoding.{item_at, next_block, next_item}
use Rattle.spec_avro.specs.Blocks.{IsHead, joined, AreBlocks, SizeIs}
use Rattle.avro_bytes.specs.Walking.{IsMet}
use Rattle.spec_decoding.specs.Decoding.{Complete, ◌>>=◌, inside}
use Rattle.avro_bytes.specs.Decoding.{map_decoding}
use Rattle.spec_avro.specs.Meter.{Counts, OpensItem}
use Rattle.avro_bytes.specs.Laws.Meters.{item_opened_again}
use Rattle.avro_datum.specs.ItemDecoding.{Reader, items_at, items_from}
use Rattle.spec_avro.specs.ItemFault.{SpellEach, deepest, units_all}
use Rattle.avro_datum.specs.Laws.ItemsAgain.{head_again_at, in_two, map_after, map_none}
use Rattle.avro_bytes.specs.Laws.BlocksAgain.{headed, met_end}
use Rattle.avro_datum.specs.Laws.Parts.{counts_nothing}
use Rattle.spec_avro.specs.declared.limits.TheConstants.{MOST_DEPTH, MOST_UNITS}

module _ {A : Type 0} (Spelled : A → List ℕ → Type 0) (deep units : A → ℕ) where
  -- what is spelled is what a reader gives, where `left` more records, arrays and maps may be opened
  abbrev pub ReadsComplete : ℕ → List ℕ → Reader A → Type 0
  ReadsComplete left all reader = (v : A) (before bytes rest : List ℕ) (m after : Meter) → left ≡ MOST_DEPTH - m.depth → all ≡ before ++ (bytes ++ rest) → Spelled v bytes → Counts (deep v) (units v) m after → reader (length before) m ≡ Complete v (length before + length bytes) after

  module _ (left : ℕ) (all : List ℕ) (reader : Reader A) (complete : ReadsComplete left all reader) where
    -- reading gives some values, before what it gives from a further place on
    pub record Passes (fuel : ℕ) (walk : Walk) (at : ℕ) (m : Meter) (vs : List A) (next : Walk) (to : ℕ) (after : Meter) : Type 0 where
      pub others : ℕ
      pub enough : MOST_UNITS - after.units < others
      pub same : items_at fuel reader all walk at m ≡ map_decoding (λ ws. vs ++ ws) (items_at others reader all next to after)

    pass_none : (fuel : ℕ) (walk : Walk) (at to : ℕ) (m after : Meter) → MOST_UNITS - m.units < fuel → at ≡ to → m ≡ after → Passes fuel walk at m [] walk to after
    pass_none fuel walk at to m after enough e f =
        let here : Passes fuel walk at m [] walk at m = record { others = fuel; enough = enough; same = sym (map_none (items_at fuel reader all walk at m)) } in
        subst (λ (k : ℕ). Passes fuel walk at m [] walk k after) e (subst (Passes fuel walk at m [] walk at) f here)

    pub pass_then : (fuel : ℕ) (walk next last : Walk) (at mid to : ℕ) (m between after : Meter) (vs ws : List A) (p : Passes fuel walk at m vs next mid between) → Passes p.others next mid between ws last to after → Passes fuel walk at m (vs ++ ws) last to after
    pass_then fuel walk next last at mid to m between after vs ws p q = record {
      others = q.others;
      enough = q.enough;
      same = p.same ∙ ap (map_decoding (λ us. vs ++ us)) q.same ∙ sym (map_after vs ws (items_at q.others reader all last to after));
    }

    -- over one item
    pass_one : (fuel : ℕ) (walk next : Walk) (at place end : ℕ) (m opened last : Meter) (v : A) → MOST_UNITS - m.units < fuel → next_item walk all at m ≡ item_at next place m → OpensItem m opened → reader place opened ≡ Complete v end last → opened.units ≤ last.units → Passes fuel walk at m (v ∷ []) next end last
    unfolding items_at
    pass_one zero walk next at place end m opened last v enough comes o read more = absurd (omega (arith, enough))
    pass_one (suc fuel) walk next at place end m opened last v enough comes o read more = record {
      others = fuel;
      enough = omega (arith, enough, o.few, o.counted, more);
      same =
          ap (λ x. x >>= items_from reader (items_at fuel reader all)) comes
          ∙ ap (λ (r : Result Meter Fault). inside r (λ within. Complete (Some next) place within) >>= items_from reader (items_at fuel reader all)) (item_opened_again place m opened o)
          ∙ ap (λ x. x >>= λ v to after. map_decoding (λ vs. v ∷ vs) (items_at fuel reader all next to after)) read;
    }

    -- an item that is spelled at an offset
    reads_there : (v : A) (before bytes rest : List ℕ) (at : ℕ) (m after : Meter) → left ≡ MOST_DEPTH - m.depth → at ≡ length before → all ≡ before ++ (bytes ++ rest) → Spelled v bytes → Counts (deep v) (units v) m after → reader at m ≡ Complete v (at + length bytes) after
    reads_there v before bytes rest at m after l e is s t = subst (λ (k : ℕ). reader k m ≡ Complete v (k + length bytes) after) (sym e) (complete v before bytes rest m after l is s t)

    -- over items of one block, in which `more` items follow
    pub pass_items : (fuel count more : ℕ) (walk : Walk) (now : List (List ℕ)) (vs : List A) (before rest : List ℕ) (at to : ℕ) (m after : Meter)
        → MOST_UNITS - m.units < fuel → left ≡ MOST_DEPTH - m.depth → count ≡ length now + more → all ≡ before ++ (joined now ++ rest) → at ≡ length before → to ≡ at + length (joined now)
        → SpellEach Spelled vs now → Counts (deepest deep vs) (units_all units vs) m after
        → Passes fuel (record walk { left = count }) at m vs (record walk { left = more }) to after
    unfolding next_item
    pass_items fuel count more walk [] [] before rest at to m after enough l c is here end s t =
        let same : more ≡ count = omega (arith, c) in
        subst (λ (k : ℕ). Passes fuel (record walk { left = count }) at m [] (record walk { left = k }) to after) (sym same)
        (pass_none fuel (record walk { left = count }) at to m after enough (omega (arith, end)) (counts_nothing m after t))
    pass_items fuel count more walk [] (v ∷ vs) before rest at to m after enough l c is here end s t = absurd s
    pass_items fuel count more walk (i ∷ now) [] before rest at to m after enough l c is here end s t = absurd s
    pass_items fuel zero more walk (i ∷ now) (v ∷ vs) before rest at to m after enough l c is here end s t = absurd (omega (arith, c))
    pass_items fuel (suc count) more walk (i ∷ now) (v ∷ vs) before rest at to m after enough l c is here end s t =
        let opened : Meter = record { depth = m.depth; units = m.units + 1 } in
        let last : Meter = record { depth = m.depth; units = m.units + 1 + units v } in
        let opens : OpensItem m opened = record { few = omega (arith, t.many); same_depth = refl; counted = refl } in
        let is1 : all ≡ before ++ (i ++ (joined now ++ rest)) = is ∙ ap (λ (b : List ℕ). before ++ b) (append_assoc i (joined now) rest) in
        let is2 : all ≡ (before ++ i) ++ (joined now ++ rest) = is1 ∙ sym (append_assoc before i (joined now ++ rest)) in
        let counts : Counts (deep v) (units v) opened last = record { deep = omega (arith, t.deep); many = omega (arith, t.many); same_depth = refl; counted = refl } in
        let read : reader at opened ≡ Complete v (at + length i) last = reads_there v before i (joined now ++ rest) at opened last l here is1 s.0 counts in
        let one = pass_one fuel (record walk { left = suc count }) (record walk { left = count }) at at (at + length i) m opened last v enough refl opens read (omega arith) in
        let others = pass_items one.others count more walk now vs (before ++ i) rest (at + length i) to last after one.enough l (omega (arith, c)) is2 (omega (arith, here, length-append before i)) (omega (arith, end, length-append i (joined now)))
        s.1 (record { deep = omega (arith, t.deep); many = omega (arith, t.many); same_depth = t.same_depth; counted = omega (arith, t.counted) }) in
        pass_then fuel (record walk { left = suc count }) (record walk { left = count }) (record walk { left = more }) at (at + length i) to m last after (v ∷ []) vs one others

    -- from the end of a block over items of another, in which `more` items follow
    pub pass_block : (fuel more : ℕ) (walk : Walk) (said : Option ℤ) (i : List ℕ) (now : List (List ℕ)) (vs : List A) (before head rest : List ℕ) (at to : ℕ) (m after : Meter)
        → MOST_UNITS - m.units < fuel → left ≡ MOST_DEPTH - m.depth → all ≡ before ++ (head ++ (joined (i ∷ now) ++ rest)) → at ≡ length before → to ≡ at + (length head + length (joined (i ∷ now)))
        → IsMet walk at → IsHead (suc (length now + more)) said head → SpellEach Spelled vs (i ∷ now) → Counts (deepest deep vs) (units_all units vs) m after
        → Passes fuel (record walk { left = 0 }) at m vs (headed more at said head) to after
    pass_block fuel more walk said i now [] before head rest at to m after enough l is here end met c s t = absurd s
    pass_block fuel more walk said i now (v ∷ vs) before head rest at to m after enough l is here end met c s t =
        let opened : Meter = record { depth = m.depth; units = m.units + 1 } in
        let last : Meter = record { depth = m.depth; units = m.units + 1 + units v } in
        let opens : OpensItem m opened = record { few = omega (arith, t.many); same_depth = refl; counted = refl } in
        let count = length now + more in
        let made : Walk = headed (length now + more) at said head in
        let is1 : all ≡ before ++ (head ++ (i ++ (joined now ++ rest))) = is ∙ ap (λ (b : List ℕ). before ++ (head ++ b)) (append_assoc i (joined now) rest) in
        let is2 : all ≡ (before ++ head) ++ (i ++ (joined now ++ rest)) = is1 ∙ sym (append_assoc before head (i ++ (joined now ++ rest))) in
        let is3 : all ≡ ((before ++ head) ++ i) ++ (joined now ++ rest) = is2 ∙ sym (append_assoc (before ++ head) i (joined now ++ rest)) in
        let place : at + length head ≡ length (before ++ head) = omega (arith, here, length-append before head) in
        let counts : Counts (deep v) (units v) opened last = record { deep = omega (arith, t.deep); many = omega (arith, t.many); same_depth = refl; counted = refl } in
        let comes : next_item (record walk { left = 0 }) all at m ≡ item_at made (at + length head) m =
        met_end walk all at m met ∙ subst (λ (b : List ℕ). next_block b at m ≡ item_at made (at + length head) m) (sym is1) (head_again_at before head (i ++ (joined now ++ rest)) at (length now + more) said m here c) in
        let read : reader (at + length head) opened ≡ Complete v ((at + length head) + length i) last = reads_there v (before ++ head) i (joined now ++ rest) (at + length head) opened last l place is2 s.0 counts in
        let one = pass_one fuel (record walk { left = 0 }) made at (at + length head) ((at + length head) + length i) m opened last v enough comes opens read (omega arith) in
        let others = pass_items one.others (length now + more) more made now vs ((before ++ head) ++ i) rest ((at + length head) + length i) to last after one.enough l refl is3 (omega (arith, place, length-append (before ++ head) i)) (omega (arith, end, length-append i (joined now)))
        s.1 (record { deep = omega (arith, t.deep); many = omega (arith, t.many); same_depth = t.same_depth; counted = omega (arith, t.counted) }) in
        pass_then fuel (record walk { left = 0 }) made (headed more at said head) at ((at + length head) + length i) to m last after (v ∷ []) vs one others

    -- ---- whole blocks

    pub record PassesBlocks (fuel : ℕ) (walk : Walk) (at : ℕ) (m : Meter) (vs : List A) (to : ℕ) (after : Meter) : Type 0 where
      pub last : Walk
      pub met : IsMet last to
      pub passes : Passes fuel (record walk { left = 0 }) at m vs (record last { left = 0 }) to after

    met_by : (count len : ℕ) (head : List ℕ) (at to : ℕ) (said : Option ℤ) → SizeIs said len → to ≡ at + (length head + len) → IsMet (headed 0 at said head) to
    met_by count len head at to said size end = subst (SizeIs said) (let e : len ≡ to - (at + length head) = omega (arith, end) in e) size

    pub pass_blocks : (fuel : ℕ) (walk : Walk) (blocks : List (List (List ℕ))) (vs : List A) (before whole rest : List ℕ) (at to : ℕ) (m after : Meter)
        → MOST_UNITS - m.units < fuel → left ≡ MOST_DEPTH - m.depth → all ≡ before ++ (whole ++ rest) → at ≡ length before → to ≡ at + length whole
        → IsMet walk at → AreBlocks blocks whole → SpellEach Spelled vs (joined blocks) → Counts (deepest deep vs) (units_all units vs) m after
        → PassesBlocks fuel walk at m vs to after
    pass_blocks fuel walk [] [] before whole rest at to m after enough l is here end met b s t =
        let same : at ≡ to = omega (arith, end, ap length b) in
        record { last = walk; met = subst (IsMet walk) same met; passes = pass_none fuel (record walk { left = 0 }) at to m after enough same (counts_nothing m after t) }
    pass_blocks fuel walk [] (v ∷ vs) before whole rest at to m after enough l is here end met b s t = absurd s
    pass_blocks fuel walk ([] ∷ blocks) vs before whole rest at to m after enough l is here end met b s t = absurd (let none = b.3 in omega (arith, none))
    pass_blocks fuel walk ((i ∷ now) ∷ blocks) vs before whole rest at to m after enough l is here end met b s t =
        let p = in_two Spelled deep units vs (i ∷ now) (joined blocks) m after s t in
        let mid = at + (length b.0 + length (joined (i ∷ now))) in
        let says = b.4 in
        let met1 = met_by (length (i ∷ now)) (length (joined (i ∷ now))) b.0 at (at + (length b.0 + length (joined (i ∷ now)))) says.0 says.2 refl in
        let is1 : all ≡ before ++ (b.0 ++ (joined (i ∷ now) ++ (b.1 ++ rest))) =
        is ∙ ap (λ (x : List ℕ). before ++ (x ++ rest)) b.2 ∙ ap (λ (x : List ℕ). before ++ x) (append_assoc b.0 (joined (i ∷ now) ++ b.1) rest ∙ ap (λ (x : List ℕ). b.0 ++ x) (append_assoc (joined (i ∷ now)) b.1 rest)) in
        let is2 : all ≡ (before ++ (b.0 ++ joined (i ∷ now))) ++ (b.1 ++ rest) =
        is1 ∙ sym (append_assoc before (b.0 ++ joined (i ∷ now)) (b.1 ++ rest) ∙ ap (λ (x : List ℕ). before ++ x) (append_assoc b.0 (joined (i ∷ now)) (b.1 ++ rest))) in
        let one = pass_block fuel 0 walk says.0 i now p.front before b.0 (b.1 ++ rest) at (at + (length b.0 + length (joined (i ∷ now)))) m p.mid enough l is1 here refl met
        (subst (λ (k : ℕ). IsHead k says.0 b.0) (let e : length (i ∷ now) ≡ suc (length now + 0) = omega arith in e) says.1) p.first p.counts_first in
        let others = pass_blocks one.others (headed 0 at says.0 b.0) blocks p.rest (before ++ (b.0 ++ joined (i ∷ now))) b.1 rest (at + (length b.0 + length (joined (i ∷ now)))) to p.mid after one.enough
        (l ∙ ap (λ (k : ℕ). MOST_DEPTH - k) (sym p.counts_first.same_depth)) is2 (omega (arith, here, length-append before (b.0 ++ joined (i ∷ now)), length-append b.0 (joined (i ∷ now))))
        (omega (arith, end, ap length b.2, length-append b.0 (joined (i ∷ now) ++ b.1), length-append (joined (i ∷ now)) b.1)) met1 b.5 p.others p.counts_others in
        record {
          last = others.last;
          met = others.met;
          passes = subst (λ (x : List A). Passes fuel (record walk { left = 0 }) at m x (record others.last { left = 0 }) to after) (sym p.all)
              (pass_then fuel (record walk { left = 0 }) (headed 0 at says.0 b.0) (record others.last { left = 0 }) at (at + (length b.0 + length (joined (i ∷ now)))) to m p.mid after p.front p.rest one others.passes);
        }
