-- The first fault of the items of an array or a map: what reading reports is there.
use Rattle.std.proofs.Common.{◌≡◌, ℕ, suc, ◌+◌, ◌-◌, ◌<◌, ◌⊎◌, List, [], ◌∷◌, ◌++◌, length, drop, Option, ℤ, refl, sym, ap, subst, ◌∙◌, append_assoc, arith, inl, inr}
use Rattle.std.proofs.lemmas.List.{append-nil, length-append}
use Rattle.spec_decoding.specs.Walk.{Walk, first_walk}
use Rattle.spec_avro.specs.declared.meter.Meter.{Meter}
use Rattle.spec_avro.specs.Blocks.{IsHead, joined, AreBlocks, SizeIs}
use Rattle.avro_bytes.specs.Walking.{IsMet}
use Rattle.avro_bytes.specs.Decoding.{Stands}
use Rattle.spec_avro.specs.Defect.{Defect}
use Rattle.spec_avro.specs.Fault.{shifted}
use Rattle.spec_avro.specs.Meter.{Counts, OpensItem}
use Rattle.avro_bytes.specs.Laws.Binds.{rest_after}
use Rattle.spec_avro.specs.ItemFault.{Begins, AfterBlocks, FaultyBlocks, SpellEach, deepest, units_all}
use Rattle.avro_datum.specs.Laws.ItemDefects.{blocks_more, counts_more, each_more, joined-more}
use Rattle.avro_bytes.specs.Laws.BlocksAgain.{headed}

module _ {A : Type 0} (Spelled : A → List ℕ → Type 0) (deep units : A → ℕ) where
  -- an item is at fault itself, after others
  pub record IsFaultyItem (Faulty : List ℕ → Meter → Defect → Type 0) (bytes : List ℕ) (m : Meter) (d : Defect) : Type 0 where
    pub front : List ℕ
    pub rest : List ℕ
    pub opened : Meter
    pub inner : Defect
    pub begins : Begins Spelled deep units bytes m front rest opened
    pub faulty : Faulty rest opened inner
    pub where_it_is : d ≡ shifted (length front) inner

  abbrev pub AtFault : (List ℕ → Meter → Defect → Type 0) → List ℕ → Meter → Defect → Type 0
  AtFault Faulty bytes m d = FaultyBlocks Spelled deep units bytes m d ⊎ IsFaultyItem Faulty bytes m d

  module _ (all : List ℕ) (start : ℕ) (m0 : Meter) where
    -- what was passed: whole blocks, and a block of which some items were passed; at first no block
    abbrev pub InBlock : Walk → List (List ℕ) → Option ℤ → List ℕ → List ℕ → Type 0
    InBlock walk now said head earlier =
        ((now ≡ []) × (head ≡ []) × (walk ≡ first_walk start))
        ⊎ ((0 < length now) × IsHead (length now + walk.left) said head × (walk ≡ headed walk.left (start + length earlier) said head))

    pub record Reached (walk : Walk) (at : ℕ) (m : Meter) : Type 0 where
      pub blocks : List (List (List ℕ))
      pub now : List (List ℕ)
      pub said : Option ℤ
      pub earlier : List ℕ
      pub head : List ℕ
      pub rest : List ℕ
      pub vs : List A
      pub parts : drop start all ≡ (earlier ++ (head ++ joined now)) ++ rest
      pub place : at ≡ start + length (earlier ++ (head ++ joined now))
      pub whole : AreBlocks blocks earlier
      pub each : SpellEach Spelled vs (joined blocks ++ now)
      pub counts : Counts (deepest deep vs) (units_all units vs) m0 m
      pub state : InBlock walk now said head earlier

    -- an item begins at an offset
    pub record Advanced (m : Meter) (next : Walk) (mid : ℕ) (opened : Meter) : Type 0 where
      pub blocks : List (List (List ℕ))
      pub now : List (List ℕ)
      pub said : Option ℤ
      pub earlier : List ℕ
      pub head : List ℕ
      pub rest : List ℕ
      pub vs : List A
      pub parts : drop start all ≡ (earlier ++ (head ++ joined now)) ++ rest
      pub place : mid ≡ start + length (earlier ++ (head ++ joined now))
      pub whole : AreBlocks blocks earlier
      pub each : SpellEach Spelled vs (joined blocks ++ now)
      pub counts : Counts (deepest deep vs) (units_all units vs) m0 m
      pub says : IsHead (length now + suc next.left) said head
      pub walks : next ≡ headed next.left (start + length earlier) said head
      pub opens : OpensItem m opened

    pub begins : (m : Meter) (next : Walk) (mid : ℕ) (opened : Meter) (a : Advanced m next mid opened) → Begins Spelled deep units (drop start all) m0 (a.earlier ++ (a.head ++ joined a.now)) a.rest opened
    begins m next mid opened a = record {
      after = m;
      here = record { blocks = a.blocks; now = a.now; left = next.left; said = a.said; before = a.earlier; head = a.head; parts = a.parts; place = refl; whole = a.whole; begins = a.says; spelled = record { values = a.vs; each = a.each; counts = a.counts } };
      opens = a.opens;
    }

    -- after an item
    pub reached_more : (m : Meter) (next : Walk) (mid end : ℕ) (opened last : Meter) (v : A) → Advanced m next mid opened → Stands (Spelled v) all mid end → Counts (deep v) (units v) opened last → Reached next end last
    reached_more m next mid end opened last v a s c =
        let here : drop mid all ≡ a.rest = rest_after (a.earlier ++ (a.head ++ joined a.now)) a.rest all start mid a.parts a.place in
        let more : joined (a.now ++ s.bytes ∷ []) ≡ joined a.now ++ s.bytes = joined-more a.now s.bytes in
        let front : (a.earlier ++ (a.head ++ joined a.now)) ++ s.bytes ≡ a.earlier ++ (a.head ++ joined (a.now ++ s.bytes ∷ [])) =
        append_assoc a.earlier (a.head ++ joined a.now) s.bytes ∙ ap (λ (b : List ℕ). a.earlier ++ b) (append_assoc a.head (joined a.now) s.bytes ∙ ap (λ (b : List ℕ). a.head ++ b) (sym more)) in
        let count : length (a.now ++ s.bytes ∷ []) ≡ suc (length a.now) = omega (arith, length-append a.now (s.bytes ∷ [])) in
        record {
          blocks = a.blocks;
          now = a.now ++ s.bytes ∷ [];
          said = a.said;
          earlier = a.earlier;
          head = a.head;
          rest = s.rest;
          vs = a.vs ++ v ∷ [];
          parts = a.parts ∙ ap (λ (b : List ℕ). (a.earlier ++ (a.head ++ joined a.now)) ++ b) (sym here ∙ s.parts) ∙ sym (append_assoc (a.earlier ++ (a.head ++ joined a.now)) s.bytes s.rest) ∙ ap (λ (b : List ℕ). b ++ s.rest) front;
          place = omega (arith, s.end, a.place, ap length front, length-append (a.earlier ++ (a.head ++ joined a.now)) s.bytes);
          whole = a.whole;
          each = subst (SpellEach Spelled (a.vs ++ v ∷ [])) (append_assoc (joined a.blocks) a.now (s.bytes ∷ [])) (each_more Spelled a.vs (joined a.blocks ++ a.now) v s.bytes a.each s.spelled);
          counts = counts_more deep units a.vs v m0 m opened last a.counts a.opens c;
          state = inr (omega (arith, count), subst (λ (k : ℕ). IsHead k a.said a.head) (let e : length a.now + suc next.left ≡ length (a.now ++ s.bytes ∷ []) + next.left = omega (arith, count) in e) a.says, a.walks);
        }

    -- ---- after a block that has its size

    head_is : (count len at : ℕ) (said : Option ℤ) (walk : Walk) (count_at : ℕ) (head : List ℕ) → IsHead count said head → walk ≡ headed walk.left count_at said head → IsMet walk at → at ≡ count_at + (length head + len)
        → (said : Option ℤ) × IsHead count said head × SizeIs said len
    head_is count len at said walk count_at head says is met place =
        let here : SizeIs said (at - (count_at + length head)) = subst (λ (w : Walk). IsMet w at) is met in
        (said, says, subst (SizeIs said) (let e : at - (count_at + length head) ≡ len = omega (arith, place) in e) here)

    pub closed : (walk : Walk) (at : ℕ) (m : Meter) (r : Reached (record walk { left = 0 }) at m) → IsMet walk at → AfterBlocks Spelled deep units (drop start all) m0 (r.earlier ++ (r.head ++ joined r.now)) r.rest m
    closed walk at m r met = closing r.state
      where
        closing : InBlock (record walk { left = 0 }) r.now r.said r.head r.earlier → AfterBlocks Spelled deep units (drop start all) m0 (r.earlier ++ (r.head ++ joined r.now)) r.rest m
        closing (inl f) =
            let none : r.head ++ joined r.now ≡ [] = ap (λ (h : List ℕ). h ++ joined r.now) f.1 ∙ ap joined f.0 in
            record {
              blocks = r.blocks;
              parts = r.parts;
              whole = subst (AreBlocks r.blocks) (sym (ap (λ (b : List ℕ). r.earlier ++ b) none ∙ append-nil r.earlier)) r.whole;
              spelled = record { values = r.vs; each = subst (SpellEach Spelled r.vs) (ap (λ (x : List (List ℕ)). joined r.blocks ++ x) f.0 ∙ append-nil (joined r.blocks)) r.each; counts = r.counts };
            }
        closing (inr w) =
            let is : (said : Option ℤ) × IsHead (length r.now + 0) said r.head × SizeIs said (length (joined r.now)) =
            head_is (length r.now + 0) (length (joined r.now)) at r.said (record walk { left = 0 }) (start + length r.earlier) r.head w.1 w.2 met (omega (arith, r.place, length-append r.earlier (r.head ++ joined r.now), length-append r.head (joined r.now))) in
            record {
              blocks = r.blocks ++ r.now ∷ [];
              parts = r.parts;
              whole = blocks_more r.blocks r.now r.earlier r.head r.whole w.0 (is.0, subst (λ (k : ℕ). IsHead k is.0 r.head) (let e : length r.now + 0 ≡ length r.now = omega arith in e) is.1, is.2);
              spelled = record { values = r.vs; each = subst (SpellEach Spelled r.vs) (sym (joined-more r.blocks r.now)) r.each; counts = r.counts };
            }
