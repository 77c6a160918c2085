-- Items that are spelled in blocks are read to the end, and where they are not, the first fault is reported.
use Rattle.std.proofs.Common.{◌≡◌, ℕ, zero, suc, ◌+◌, ◌-◌, ◌<◌, List, [], ◌∷◌, ◌++◌, length, Option, Some, None, Result, ℤ, pos, refl, sym, ap, subst, ◌∙◌, append_assoc, arith, inl, inr}
use Rattle.std.proofs.lemmas.List.{append-nil, length-append}
use Rattle.spec_decoding.specs.Walk.{Walk, first_walk}
use Rattle.spec_decoding.specs.declared.fault.Fault.{Fault}
use Rattle.spec_avro.specs.declared.malformed.MalformedKind.TheVariants.{BadBlock}
use Rattle.spec_avro.specs.declared.meter.Meter.{Meter}
use Rattle.spec_decoding.specs.BlockDecoding.{item_at, next_block, next_item}
use Rattle.spec_avro.specs.Blocks.{IsBlocks, IsItems, joined, AreBlocks, IsHead}
use Rattle.avro_bytes.specs.Walking.{IsMet, Remains}
use Rattle.spec_avro.specs.Meter.{Counts}
use Rattle.spec_decoding.specs.Opening.{closed_blocks}
use Rattle.spec_avro.specs.Number.{IsNumber64}
use Rattle.avro_bytes.specs.Laws.Binds.{failing_map, failing_shifted, failing_then}
use Rattle.avro_bytes.specs.Laws.BlockDefects.{bad_block_told, head_told}
use Rattle.avro_bytes.specs.Laws.BlocksAgain.{end_complete, headed, met_end}
use Rattle.avro_bytes.specs.Laws.BlockSteps.{none_left}
use Rattle.avro_bytes.specs.Laws.Meters.{item_opened_again, item_refused_told}
use Rattle.avro_datum.specs.ItemDecoding.{Reader, items_at, items_from}
use Rattle.spec_avro.specs.ItemFault.{AtItem, Begins, FaultyBlocks, IsFaultyHead, IsRefusedItem, SpellEach, deepest, units_all}
use Rattle.avro_datum.specs.Laws.ItemsAgain.{head_again_at, in_two}
use Rattle.avro_datum.specs.Laws.ItemsPassed.{Passes, ReadsComplete, pass_block, pass_blocks, pass_then}
use Rattle.spec_decoding.specs.Decoding.{Complete, Failed, inside, ◌>>=◌}
use Rattle.avro_bytes.specs.Decoding.{map_decoding}
use Rattle.spec_avro.specs.Defect.{Defect, Malformed}
use Rattle.avro_bytes.specs.Fault.{failing}
use Rattle.spec_avro.specs.Fault.{shifted}
use Rattle.spec_avro.specs.declared.limits.TheConstants.{MOST_DEPTH, MOST_UNITS}

-- blocks, and the end after them
end_of : (blocks : List (List (List ℕ))) (bytes : List ℕ) → IsBlocks blocks bytes → (whole : List ℕ) × (last : List ℕ) × (bytes ≡ whole ++ last) × AreBlocks blocks whole × IsNumber64 (pos 0) last
end_of [] bytes s = ([], bytes, refl, refl, s)
end_of (items ∷ blocks) bytes s =
    let r = end_of blocks s.1 s.5 in
    let parts : bytes ≡ (s.0 ++ (joined items ++ r.0)) ++ r.1 =
    s.2 ∙ ap (λ (b : List ℕ). s.0 ++ (joined items ++ b)) r.2 ∙ sym (append_assoc s.0 (joined items ++ r.0) r.1 ∙ ap (λ (b : List ℕ). s.0 ++ b) (append_assoc (joined items) r.0 r.1)) in
    (s.0 ++ (joined items ++ r.0), r.1, parts, (s.0, r.0, refl, s.3, s.4, r.3), r.4)

module _ {A : Type 0} (Spelled : A → List ℕ → Type 0) (deep units : A → ℕ) (left : ℕ) (all : List ℕ) (reader : Reader A) (complete : ReadsComplete Spelled deep units left all reader) where
  ended : (fuel limit : ℕ) (walk : Walk) (at : ℕ) (m : Meter) (to : ℕ) (after : Meter) → limit < fuel → next_item walk all at m ≡ Complete None to after → items_at fuel reader all walk at m ≡ Complete [] to after
  unfolding items_at
  ended zero limit walk at m to after enough e = absurd (omega (arith, enough))
  ended (suc fuel) limit walk at m to after enough e = ap (λ x. x >>= items_from reader (items_at fuel reader all)) e

  pub items_complete : (fuel : ℕ) (items : List (List ℕ)) (vs : List A) (before bytes rest : List ℕ) (m after : Meter)
      → MOST_UNITS - m.units < fuel → left ≡ MOST_DEPTH - m.depth → all ≡ before ++ (bytes ++ rest) → IsItems items bytes → SpellEach Spelled vs items → Counts (deepest deep vs) (units_all units vs) m after
      → items_at fuel reader all (first_walk (length before)) (length before) m ≡ Complete vs (length before + length bytes) (closed_blocks after)
  items_complete fuel items vs before bytes rest m after enough l is s each t =
      let b = end_of s.blocks bytes s.spelled in
      let whole = b.0 in
      let last = b.1 in
      let is1 : all ≡ before ++ (b.0 ++ (b.1 ++ rest)) = is ∙ ap (λ (x : List ℕ). before ++ (x ++ rest)) b.2 ∙ ap (λ (x : List ℕ). before ++ x) (append_assoc b.0 b.1 rest) in
      let is2 : all ≡ (before ++ b.0) ++ (b.1 ++ rest) = is1 ∙ sym (append_assoc before b.0 (b.1 ++ rest)) in
      let p = pass_blocks Spelled deep units left all reader complete fuel (first_walk (length before)) s.blocks vs before b.0 (b.1 ++ rest) (length before) (length before + length b.0) m after enough l is1 refl refl tt b.3 (subst (SpellEach Spelled vs) (sym s.all) each) t in
      let walk : Walk = record p.last { left = 0 } in
      let mid : length before + length b.0 ≡ length (before ++ b.0) = sym (length-append before b.0) in
      let none : IsItems [] b.1 = record { blocks = []; all = refl; spelled = b.4 } in
      let remains : Remains walk (length (before ++ b.0)) [] b.1 = none_left p.last (length (before ++ b.0)) [] b.1 (subst (IsMet p.last) mid p.met) none in
      let ends : next_item walk all (length before + length b.0) after ≡ Complete None ((length before + length b.0) + length b.1) (closed_blocks after) =
      subst (λ (k : ℕ). next_item walk all k after ≡ Complete None (k + length b.1) (closed_blocks after)) (sym mid)
      (subst (λ (x : List ℕ). next_item walk x (length (before ++ b.0)) after ≡ Complete None (length (before ++ b.0) + length b.1) (closed_blocks after)) (sym is2) (end_complete walk (before ++ b.0) b.1 rest after remains)) in
      let place : (length before + length b.0) + length b.1 ≡ length before + length bytes = omega (arith, ap length b.2, length-append b.0 b.1) in
      p.passes.same
      ∙ ap (map_decoding (λ ws. vs ++ ws)) (ended p.passes.others (MOST_UNITS - after.units) walk (length before + length b.0) after ((length before + length b.0) + length b.1) (closed_blocks after) p.passes.enough ends)
      ∙ ap (λ (x : List A). Complete x ((length before + length b.0) + length b.1) (closed_blocks after)) (append-nil vs)
      ∙ ap (λ (k : ℕ). Complete vs k (closed_blocks after)) place

  -- ---- the first fault

  stopped : (fuel limit : ℕ) (walk : Walk) (at : ℕ) (m : Meter) (place : ℕ) (d : Defect) → limit < fuel → next_item walk all at m ≡ failing place d → items_at fuel reader all walk at m ≡ failing place d
  unfolding items_at
  stopped zero limit walk at m place d enough e = absurd (omega (arith, enough))
  stopped (suc fuel) limit walk at m place d enough e = ap (λ x. x >>= items_from reader (items_at fuel reader all)) e ∙ failing_then place d (items_from reader (items_at fuel reader all))

  passed_fault : (fuel : ℕ) (walk next : Walk) (at to : ℕ) (m after : Meter) (vs : List A) (place : ℕ) (d : Defect) (p : Passes Spelled deep units left all reader complete fuel walk at m vs next to after) → items_at p.others reader all next to after ≡ failing place d → items_at fuel reader all walk at m ≡ failing place d
  passed_fault fuel walk next at to m after vs place d p e = p.same ∙ ap (map_decoding (λ ws. vs ++ ws)) e ∙ failing_map place d (λ ws. vs ++ ws)

  module _ (fuel : ℕ) (before bytes : List ℕ) (m : Meter) (enough : MOST_UNITS - m.units < fuel) (l : left ≡ MOST_DEPTH - m.depth) (is : all ≡ before ++ bytes) where
    head_fault_told : (d : Defect) → IsFaultyHead Spelled deep units bytes m d → items_at fuel reader all (first_walk (length before)) (length before) m ≡ failing (length before) d
    head_fault_told d h =
        let b = h.stands in
        let is1 : all ≡ before ++ (h.front ++ h.rest) = is ∙ ap (λ (x : List ℕ). before ++ x) b.parts in
        let p = pass_blocks Spelled deep units left all reader complete fuel (first_walk (length before)) b.blocks b.spelled.values before h.front h.rest (length before) (length before + length h.front) m h.after enough l is1 refl refl tt b.whole b.spelled.each b.spelled.counts in
        let is2 : all ≡ (before ++ h.front) ++ h.rest = is1 ∙ sym (append_assoc before h.front h.rest) in
        let head : next_block all (length before + length h.front) h.after ≡ failing (length before + length h.front) h.inner =
        subst (λ (k : ℕ). next_block all k h.after ≡ failing k h.inner) (length-append before h.front) (subst (λ (x : List ℕ). next_block x (length (before ++ h.front)) h.after ≡ failing (length (before ++ h.front)) h.inner) (sym is2) (head_told (before ++ h.front) h.rest h.after h.inner h.faulty)) in
        passed_fault fuel (first_walk (length before)) (record p.last { left = 0 }) (length before) (length before + length h.front) m h.after b.spelled.values (length before + length h.front) h.inner p.passes
        (stopped p.passes.others (MOST_UNITS - h.after.units) (record p.last { left = 0 }) (length before + length h.front) h.after (length before + length h.front) h.inner p.passes.enough (met_end p.last all (length before + length h.front) h.after p.met ∙ head))
        ∙ failing_shifted (length before) (length h.front) h.inner ∙ ap (failing (length before)) (sym h.where_it_is)

    -- a walk that comes to an item
    record Arrives (front : List ℕ) (after : Meter) : Type 0 where
      vs : List A
      walk : Walk
      next : Walk
      at : ℕ
      passes : Passes Spelled deep units left all reader complete fuel (first_walk (length before)) (length before) m vs walk at after
      comes : next_item walk all at after ≡ item_at next (length before + length front) after

    arrives : (blocks : List (List (List ℕ))) (now : List (List ℕ)) (count : ℕ) (said : Option ℤ) (earlier head front rest : List ℕ) (vs : List A) (after : Meter)
        → bytes ≡ front ++ rest → front ≡ earlier ++ (head ++ joined now) → AreBlocks blocks earlier → IsHead (length now + suc count) said head → SpellEach Spelled vs (joined blocks ++ now) → Counts (deepest deep vs) (units_all units vs) m after
        → Arrives front after
    unfolding next_item
    arrives blocks [] count said earlier head front rest vs after parts place whole says each t =
        let front_is : front ≡ earlier ++ head = place ∙ ap (λ (x : List ℕ). earlier ++ x) (append-nil head) in
        let is1 : all ≡ before ++ (earlier ++ (head ++ rest)) = is ∙ ap (λ (x : List ℕ). before ++ x) (parts ∙ ap (λ (x : List ℕ). x ++ rest) front_is ∙ append_assoc earlier head rest) in
        let is2 : all ≡ (before ++ earlier) ++ (head ++ rest) = is1 ∙ sym (append_assoc before earlier (head ++ rest)) in
        let p = pass_blocks Spelled deep units left all reader complete fuel (first_walk (length before)) blocks vs before earlier (head ++ rest) (length before) (length before + length earlier) m after enough l is1 refl refl tt whole (subst (SpellEach Spelled vs) (append-nil (joined blocks)) each) t in
        let next : Walk = headed count (length before + length earlier) said head in
        let says1 : IsHead (suc count) said head = subst (λ (k : ℕ). IsHead k said head) (let e : length {A = List ℕ} [] + suc count ≡ suc count = omega arith in e) says in
        let here : next_block all (length before + length earlier) after ≡ item_at next ((length before + length earlier) + length head) after =
        subst (λ (x : List ℕ). next_block x (length before + length earlier) after ≡ item_at next ((length before + length earlier) + length head) after) (sym is2) (head_again_at (before ++ earlier) head rest (length before + length earlier) count said after (sym (length-append before earlier)) says1) in
        let end : (length before + length earlier) + length head ≡ length before + length front = omega (arith, ap length front_is, length-append earlier head) in
        record {
          vs = vs;
          walk = record p.last { left = 0 };
          next = next;
          at = length before + length earlier;
          passes = p.passes;
          comes = met_end p.last all (length before + length earlier) after p.met ∙ here ∙ ap (λ (k : ℕ). item_at (headed count (length before + length earlier) said head) k after) end;
        }
    arrives blocks (i ∷ now) count said earlier head front rest vs after parts place whole says each t =
        let q = in_two Spelled deep units vs (joined blocks) (i ∷ now) m after each t in
        let is1 : all ≡ before ++ (earlier ++ (head ++ (joined (i ∷ now) ++ rest))) =
        is ∙ ap (λ (x : List ℕ). before ++ x) (parts ∙ ap (λ (x : List ℕ). x ++ rest) place ∙ append_assoc earlier (head ++ joined (i ∷ now)) rest ∙ ap (λ (x : List ℕ). earlier ++ x) (append_assoc head (joined (i ∷ now)) rest)) in
        let is2 : all ≡ (before ++ earlier) ++ (head ++ (joined (i ∷ now) ++ rest)) = is1 ∙ sym (append_assoc before earlier (head ++ (joined (i ∷ now) ++ rest))) in
        let p = pass_blocks Spelled deep units left all reader complete fuel (first_walk (length before)) blocks q.front before earlier (head ++ (joined (i ∷ now) ++ rest)) (length before) (length before + length earlier) m q.mid enough l is1 refl refl tt whole q.first q.counts_first in
        let says1 : IsHead (suc (length now + suc count)) said head = subst (λ (k : ℕ). IsHead k said head) (let e : length (i ∷ now) + suc count ≡ suc (length now + suc count) = omega arith in e) says in
        let b = pass_block Spelled deep units left all reader complete p.passes.others (suc count) p.last said i now q.rest (before ++ earlier) head rest (length before + length earlier) (length before + length front) q.mid after p.passes.enough
        (l ∙ ap (λ (k : ℕ). MOST_DEPTH - k) (sym q.counts_first.same_depth)) is2 (sym (length-append before earlier)) (omega (arith, ap length place, length-append earlier (head ++ joined (i ∷ now)), length-append head (joined (i ∷ now)))) p.met says1 q.others q.counts_others in
        record {
          vs = q.front ++ q.rest;
          walk = headed (suc count) (length before + length earlier) said head;
          next = headed count (length before + length earlier) said head;
          at = length before + length front;
          passes = pass_then Spelled deep units left all reader complete fuel (first_walk (length before)) (record p.last { left = 0 }) (headed (suc count) (length before + length earlier) said head) (length before) (length before + length earlier) (length before + length front) m q.mid after q.front q.rest p.passes b;
          comes = refl;
        }

    arrives_at : (front rest : List ℕ) (after : Meter) → AtItem Spelled deep units bytes m front rest after → Arrives front after
    arrives_at front rest after h = arrives h.blocks h.now h.left h.said h.before h.head front rest h.spelled.values after h.parts h.place h.whole h.begins h.spelled.each h.spelled.counts

    refused_item_told : (d : Defect) → IsRefusedItem Spelled deep units bytes m d → items_at fuel reader all (first_walk (length before)) (length before) m ≡ failing (length before) d
    refused_item_told d h =
        let a = arrives_at h.front h.rest h.after h.here in
        let place = length before + length h.front in
        passed_fault fuel (first_walk (length before)) a.walk (length before) a.at m h.after a.vs (length before + length h.front) h.inner a.passes
        (stopped a.passes.others (MOST_UNITS - h.after.units) a.walk a.at h.after (length before + length h.front) h.inner a.passes.enough (a.comes ∙ item_refused_told (λ within. Complete (Some a.next) (length before + length h.front) within) (length before + length h.front) h.after h.inner h.refused))
        ∙ failing_shifted (length before) (length h.front) h.inner ∙ ap (failing (length before)) (sym h.where_it_is)

    fault_there : (fuel limit : ℕ) (walk next : Walk) (at place : ℕ) (after opened : Meter) (d : Defect) → limit < fuel → next_item walk all at after ≡ item_at next place after → item_at next place after ≡ Complete (Some next) place opened → reader place opened ≡ failing place d → items_at fuel reader all walk at after ≡ failing place d
    unfolding items_at
    fault_there zero limit walk next at place after opened d enough comes opens e = absurd (omega (arith, enough))
    fault_there (suc fuel) limit walk next at place after opened d enough comes opens e =
        ap (λ x. x >>= items_from reader (items_at fuel reader all)) (comes ∙ opens)
        ∙ ap (λ x. x >>= λ v to after. map_decoding (λ vs. v ∷ vs) (items_at fuel reader all next to after)) e ∙ failing_then place d (λ v to after. map_decoding (λ vs. v ∷ vs) (items_at fuel reader all next to after))

    -- an item that is at fault itself
    pub item_fault_told : (front rest : List ℕ) (opened : Meter) (inner d : Defect) → Begins Spelled deep units bytes m front rest opened → reader (length before + length front) opened ≡ failing (length before + length front) inner → d ≡ shifted (length front) inner
        → items_at fuel reader all (first_walk (length before)) (length before) m ≡ failing (length before) d
    item_fault_told front rest opened inner d h e place =
        let a = arrives_at front rest h.after h.here in
        let opens : item_at a.next (length before + length front) h.after ≡ Complete (Some a.next) (length before + length front) opened =
        ap (λ (r : Result Meter Fault). inside r (λ within. Complete (Some a.next) (length before + length front) within)) (item_opened_again (length before + length front) h.after opened h.opens) in
        passed_fault fuel (first_walk (length before)) a.walk (length before) a.at m h.after a.vs (length before + length front) inner a.passes
        (fault_there a.passes.others (MOST_UNITS - h.after.units) a.walk a.next a.at (length before + length front) h.after opened inner a.passes.enough a.comes opens e)
        ∙ failing_shifted (length before) (length front) inner ∙ ap (failing (length before)) (sym place)

    bad_block_is_told : (blocks : List (List (List ℕ))) (now : List (List ℕ)) (size : ℤ) (earlier head rest : List ℕ) (vs : List A) (after : Meter)
        → bytes ≡ earlier ++ (head ++ (joined now ++ rest)) → AreBlocks blocks earlier → IsHead (length now) (Some size) head → 0 < length now → SpellEach Spelled vs (joined blocks ++ now) → Counts (deepest deep vs) (units_all units vs) m after → ¬ (size ≡ pos (length (joined now)))
        → items_at fuel reader all (first_walk (length before)) (length before) m ≡ Failed (Malformed BadBlock (length before + length earlier))
    bad_block_is_told blocks [] size earlier head rest vs after parts whole says some each t wrong = absurd (omega (arith, some))
    bad_block_is_told blocks (i ∷ now) size earlier head rest vs after parts whole says some each t wrong =
        let q = in_two Spelled deep units vs (joined blocks) (i ∷ now) m after each t in
        let is1 : all ≡ before ++ (earlier ++ (head ++ (joined (i ∷ now) ++ rest))) = is ∙ ap (λ (x : List ℕ). before ++ x) parts in
        let is2 : all ≡ (before ++ earlier) ++ (head ++ (joined (i ∷ now) ++ rest)) = is1 ∙ sym (append_assoc before earlier (head ++ (joined (i ∷ now) ++ rest))) in
        let at = length before + length earlier in
        let to = at + (length head + length (joined (i ∷ now))) in
        let said : Walk = headed 0 (length before + length earlier) (Some size) head in
        let p = pass_blocks Spelled deep units left all reader complete fuel (first_walk (length before)) blocks q.front before earlier (head ++ (joined (i ∷ now) ++ rest)) (length before) (length before + length earlier) m q.mid enough l is1 refl refl tt whole q.first q.counts_first in
        let says1 : IsHead (suc (length now + 0)) (Some size) head = subst (λ (k : ℕ). IsHead k (Some size) head) (let e : length (i ∷ now) ≡ suc (length now + 0) = omega arith in e) says in
        let b = pass_block Spelled deep units left all reader complete p.passes.others 0 p.last (Some size) i now q.rest (before ++ earlier) head rest (length before + length earlier) ((length before + length earlier) + (length head + length (joined (i ∷ now)))) q.mid after p.passes.enough
        (l ∙ ap (λ (k : ℕ). MOST_DEPTH - k) (sym q.counts_first.same_depth)) is2 (sym (length-append before earlier)) refl p.met says1 q.others q.counts_others in
        let all_of_them = pass_then Spelled deep units left all reader complete fuel (first_walk (length before)) (record p.last { left = 0 }) said (length before) (length before + length earlier) ((length before + length earlier) + (length head + length (joined (i ∷ now)))) m q.mid after q.front q.rest p.passes b in
        let unmet : ¬ (IsMet said ((length before + length earlier) + (length head + length (joined (i ∷ now))))) =
        λ e. wrong (e ∙ ap pos (let k : ((length before + length earlier) + (length head + length (joined (i ∷ now)))) - ((length before + length earlier) + length head) ≡ length (joined (i ∷ now)) = omega arith in k)) in
        passed_fault fuel (first_walk (length before)) said (length before) ((length before + length earlier) + (length head + length (joined (i ∷ now)))) m after (q.front ++ q.rest) (length before) (Malformed BadBlock (length earlier)) all_of_them
        (stopped all_of_them.others (MOST_UNITS - after.units) said ((length before + length earlier) + (length head + length (joined (i ∷ now)))) after (length before) (Malformed BadBlock (length earlier)) all_of_them.enough (bad_block_told said all ((length before + length earlier) + (length head + length (joined (i ∷ now)))) after refl unmet))

    pub blocks_told : (d : Defect) → FaultyBlocks Spelled deep units bytes m d → items_at fuel reader all (first_walk (length before)) (length before) m ≡ failing (length before) d
    blocks_told d (inl h) = head_fault_told d h
    blocks_told d (inr (inl h)) = refused_item_told d h
    blocks_told d (inr (inr h)) =
        bad_block_is_told h.blocks h.now h.size h.before h.head h.rest h.spelled.values h.after h.parts h.whole h.begins h.some h.spelled.each h.spelled.counts h.wrong
        ∙ ap (failing (length before)) (sym h.where_it_is)
