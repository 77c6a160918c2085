-- Where reading the items of an array or a map comes to one more, what was reached goes on with it.
use Rattle.std.proofs.Common.{◌≡◌, ℕ, zero, suc, ◌+◌, List, [], ◌++◌, length, drop, Some, sym, ap, subst, ◌∙◌, append_assoc, arith, inl, inr, refl}
use Rattle.std.proofs.lemmas.List.{append-nil, length-append}
use Rattle.spec_decoding.specs.Walk.{Walk}
use Rattle.spec_avro.specs.declared.meter.Meter.{Meter}
use Rattle.spec_decoding.specs.BlockDecoding.{next_item}
use Rattle.avro_bytes.specs.Walking.{IsMet}
use Rattle.spec_avro.specs.Blocks.{joined, IsHead}
use Rattle.spec_decoding.specs.Decoding.{Complete}
use Rattle.avro_bytes.specs.Laws.Binds.{rest_after}
use Rattle.avro_bytes.specs.Laws.BlockDefects.{bad_block_told, decide_met}
use Rattle.avro_bytes.specs.Laws.Walks.{item_takes, some_is}
use Rattle.spec_avro.specs.ItemFault.{SpellEach}
use Rattle.avro_datum.specs.Laws.ItemDefects.{block_heads}
use Rattle.avro_datum.specs.Laws.ItemFaults.{Advanced, InBlock, Reached, closed}
use Rattle.avro_bytes.specs.Laws.BlocksAgain.{headed, met_end}

module _ {A : Type 0} (Spelled : A → List ℕ → Type 0) (deep units : A → ℕ) where
  module _ (all : List ℕ) (start : ℕ) (m0 : Meter) where
    advance_within : (left : ℕ) (walk : Walk) (at : ℕ) (m : Meter) (next : Walk) (mid : ℕ) (opened : Meter) → Reached Spelled deep units all start m0 (record walk { left = suc left }) at m → next_item (record walk { left = suc left }) all at m ≡ Complete (Some next) mid opened → Advanced Spelled deep units all start m0 m next mid opened
    unfolding next_item
    advance_within left walk at m next mid opened r e = advancing r.state
      where
        advancing : InBlock Spelled deep units all start m0 (record walk { left = suc left }) r.now r.said r.head r.earlier → Advanced Spelled deep units all start m0 m next mid opened
        advancing (inl f) = absurd (let none : suc left ≡ 0 = ap (λ (w : Walk). w.left) f.2 in omega (arith, none))
        advancing (inr w) =
            let i = item_takes (record walk { left = left }) at m (Some next) mid opened e in
            let same : record walk { left = left } ≡ next = some_is i.1 in
            record {
              blocks = r.blocks;
              now = r.now;
              said = r.said;
              earlier = r.earlier;
              head = r.head;
              rest = r.rest;
              vs = r.vs;
              parts = r.parts;
              place = sym i.2 ∙ r.place;
              whole = r.whole;
              each = r.each;
              counts = r.counts;
              says = subst (λ (x : Walk). IsHead (length r.now + suc x.left) r.said r.head) same w.1;
              walks = subst (λ (x : Walk). x ≡ headed x.left (start + length r.earlier) r.said r.head) same (ap (λ (x : Walk). record x { left = left }) w.2);
              opens = i.0;
            }

    advance_block : (walk : Walk) (at : ℕ) (m : Meter) (next : Walk) (mid : ℕ) (opened : Meter) → Reached Spelled deep units all start m0 (record walk { left = 0 }) at m → IsMet walk at → next_item (record walk { left = 0 }) all at m ≡ Complete (Some next) mid opened → Advanced Spelled deep units all start m0 m next mid opened
    advance_block walk at m next mid opened r met e =
        let b = closed Spelled deep units all start m0 walk at m r met in
        let front = r.earlier ++ (r.head ++ joined r.now) in
        let h = block_heads all at m next mid opened (sym (met_end walk all at m met) ∙ e) in
        let here : drop at all ≡ r.rest = rest_after (r.earlier ++ (r.head ++ joined r.now)) r.rest all start at r.parts r.place in
        let none : (r.earlier ++ (r.head ++ joined r.now)) ++ (h.head ++ []) ≡ (r.earlier ++ (r.head ++ joined r.now)) ++ h.head = ap (λ (x : List ℕ). (r.earlier ++ (r.head ++ joined r.now)) ++ x) (append-nil h.head) in
        record {
          blocks = b.blocks;
          now = [];
          said = h.said;
          earlier = r.earlier ++ (r.head ++ joined r.now);
          head = h.head;
          rest = h.rest;
          vs = b.spelled.values;
          parts = r.parts ∙ ap (λ (x : List ℕ). (r.earlier ++ (r.head ++ joined r.now)) ++ x) (sym here ∙ h.parts) ∙ sym (append_assoc (r.earlier ++ (r.head ++ joined r.now)) h.head h.rest) ∙ ap (λ (x : List ℕ). x ++ h.rest) (sym none);
          place = omega (arith, h.end, r.place, ap length none, length-append (r.earlier ++ (r.head ++ joined r.now)) h.head);
          whole = b.whole;
          each = subst (SpellEach Spelled b.spelled.values) (sym (append-nil (joined b.blocks))) b.spelled.each;
          counts = b.spelled.counts;
          says = subst (λ (k : ℕ). IsHead k h.said h.head) (let e : suc next.left ≡ length {A = List ℕ} [] + suc next.left = omega arith in e) h.says;
          walks = h.walks ∙ ap (λ (k : ℕ). headed next.left k h.said h.head) r.place;
          opens = h.opens;
        }

    pub advance : (left : ℕ) (walk : Walk) (at : ℕ) (m : Meter) (next : Walk) (mid : ℕ) (opened : Meter) → Reached Spelled deep units all start m0 (record walk { left = left }) at m → next_item (record walk { left = left }) all at m ≡ Complete (Some next) mid opened → Advanced Spelled deep units all start m0 m next mid opened
    advance (suc left) walk at m next mid opened r e = advance_within left walk at m next mid opened r e
    advance zero walk at m next mid opened r e =
        elim (decide_met walk at) [
          | inl met ↦ advance_block walk at m next mid opened r met e
          | inr unmet ↦ absurd (let bad = sym (bad_block_told (record walk { left = 0 }) all at m refl unmet) ∙ e in cc)
        ]
