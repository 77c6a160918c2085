-- Where reading the items of an array or a map gives none, the fault that it reports is there.
use Rattle.std.proofs.Common.{◌≡◌, ℕ, zero, suc, ◌+◌, ◌-◌, ◌<◌, ◌≤◌, List, [], ◌∷◌, ◌++◌, length, drop, Option, Some, None, ℤ, pos, negsuc, refl, sym, ap, subst, ◌∙◌, append_assoc, arith, lit<}
use Rattle.std.proofs.lemmas.List.{append-nil, length-append}
use Rattle.spec_decoding.specs.Walk.{Walk}
use Rattle.spec_avro.specs.declared.meter.Meter.{Meter}
use Rattle.spec_decoding.specs.BlockDecoding.{after_count, item_at, next_block, sized_block}
use Rattle.spec_avro.specs.Blocks.{IsHead, joined, AreBlocks, SizeIs}
use Rattle.spec_decoding.specs.Decoding.{Complete}
use Rattle.avro_bytes.specs.Decoding.{Stands}
use Rattle.spec_avro.specs.Meter.{Counts, OpensItem}
use Rattle.spec_avro.specs.Number.{IsNumber, long_limit}
use Rattle.spec_decoding.specs.NumberDecoding.{number_at}
use Rattle.avro_bytes.specs.Laws.Binds.{rest_after, complete_is, then_complete}
use Rattle.avro_bytes.specs.Laws.Numbers.{number_sound}
use Rattle.avro_bytes.specs.Laws.Walks.{item_takes, some_is}
use Rattle.spec_avro.specs.ItemFault.{SpellEach, deepest, units_all}
use Rattle.avro_bytes.specs.Laws.BlocksAgain.{headed}
use Rattle.spec_avro.specs.declared.limits.TheConstants.{MOST_DEPTH}

-- ---- the head of a block that is passed

-- a block begins at an offset: its head is there, and its first item after that
pub record Heads (all : List ℕ) (at : ℕ) (m : Meter) (next : Walk) (to : ℕ) (after : Meter) : Type 0 where
  pub head : List ℕ
  pub rest : List ℕ
  pub said : Option ℤ
  pub parts : drop at all ≡ head ++ rest
  pub end : to ≡ at + length head
  pub says : IsHead (suc next.left) said head
  pub walks : next ≡ headed next.left at said head
  pub opens : OpensItem m after

item_heads : (all : List ℕ) (at : ℕ) (m : Meter) (left : ℕ) (next : Walk) (place to : ℕ) (after : Meter) (head rest : List ℕ) (said : Option ℤ)
    → item_at (record { left = left; count_at = at; items_at = place; size = said }) place m ≡ Complete (Some next) to after
    → drop at all ≡ head ++ rest → place ≡ at + length head → IsHead (suc left) said head → Heads all at m next to after
item_heads all at m left next place to after head rest said e parts end says =
    let i = item_takes (record { left = left; count_at = at; items_at = place; size = said }) place m (Some next) to after e in
    let same : headed left at said head ≡ next = ap (λ (k : ℕ). record { left = left; count_at = at; items_at = k; size = said }) (sym end) ∙ some_is i.1 in
    record {
      head = head;
      rest = rest;
      said = said;
      parts = parts;
      end = sym i.2 ∙ end;
      says = subst (λ (w : Walk). IsHead (suc w.left) said head) same says;
      walks = subst (λ (w : Walk). w ≡ headed w.left at said head) same refl;
      opens = i.0;
    }

sized_heads : (all : List ℕ) (at n mid : ℕ) (m : Meter) (next : Walk) (to : ℕ) (after : Meter) → Stands (IsNumber long_limit (negsuc n)) all at mid → sized_block all at n mid m ≡ Complete (Some next) to after → Heads all at m next to after
unfolding sized_block
sized_heads all at n mid m next to after s e =
    let t = then_complete (number_at long_limit all mid m) (λ size items after. item_at (record { left = n; count_at = at; items_at = items; size = Some size }) items after) (Some next) to after e in
    let k = number_sound long_limit all mid m t.first t.mid t.meter (lit< tt) t.first_is in
    let here : drop mid all ≡ s.rest = rest_after s.bytes s.rest all at mid s.parts s.end in
    let end : t.mid ≡ at + length (s.bytes ++ k.0.bytes) = omega (arith, s.end, k.0.end, length-append s.bytes k.0.bytes) in
    item_heads all at m n next t.mid to after (s.bytes ++ k.0.bytes) k.0.rest (Some t.first)
    (ap (λ (x : Meter). item_at (record { left = n; count_at = at; items_at = t.mid; size = Some t.first }) t.mid x) k.1 ∙ t.next_is)
    (s.parts ∙ ap (λ (b : List ℕ). s.bytes ++ b) (sym here ∙ k.0.parts) ∙ sym (append_assoc s.bytes k.0.bytes k.0.rest)) end
    (record { count_bytes = s.bytes; size_bytes = k.0.bytes; parts = refl; number = s.spelled; said = k.0.spelled })

count_heads : (all : List ℕ) (at : ℕ) (n : ℤ) (mid : ℕ) (m : Meter) (next : Walk) (to : ℕ) (after : Meter) → Stands (IsNumber long_limit n) all at mid → after_count all at n mid m ≡ Complete (Some next) to after → Heads all at m next to after
count_heads all at (pos zero) mid m next to after s e = absurd (let f = complete_is e in let none = f.0 in cc)
count_heads all at (pos (suc n)) mid m next to after s e = item_heads all at m n next mid to after s.bytes s.rest None e s.parts s.end s.spelled
count_heads all at (negsuc n) mid m next to after s e = sized_heads all at n mid m next to after s e

pub block_heads : (all : List ℕ) (at : ℕ) (m : Meter) (next : Walk) (to : ℕ) (after : Meter) → next_block all at m ≡ Complete (Some next) to after → Heads all at m next to after
unfolding next_block
block_heads all at m next to after e =
    let t = then_complete (number_at long_limit all at m) (after_count all at) (Some next) to after e in
    let s = number_sound long_limit all at m t.first t.mid t.meter (lit< tt) t.first_is in
    subst (λ (x : Meter). Heads all at x next to after) (sym s.1) (count_heads all at t.first t.mid t.meter next to after s.0 t.next_is)

-- ---- more blocks, and more values

pub blocks_more : (blocks : List (List (List ℕ))) (now : List (List ℕ)) (front head : List ℕ) → AreBlocks blocks front → 0 < length now → ((said : Option ℤ) × IsHead (length now) said head × SizeIs said (length (joined now))) → AreBlocks (blocks ++ now ∷ []) (front ++ (head ++ joined now))
blocks_more [] now front head are some is =
    (head, [], ap (λ (b : List ℕ). b ++ (head ++ joined now)) are ∙ ap (λ (b : List ℕ). head ++ b) (sym (append-nil (joined now))), some, is, refl)
blocks_more (items ∷ blocks) now front head are some is =
    let parts : front ++ (head ++ joined now) ≡ are.0 ++ (joined items ++ (are.1 ++ (head ++ joined now))) =
    ap (λ (b : List ℕ). b ++ (head ++ joined now)) are.2 ∙ append_assoc are.0 (joined items ++ are.1) (head ++ joined now) ∙ ap (λ (b : List ℕ). are.0 ++ b) (append_assoc (joined items) are.1 (head ++ joined now)) in
    (are.0, are.1 ++ (head ++ joined now), parts, are.3, are.4, blocks_more blocks now are.1 head are.5 some is)

pub joined-more : {A : Type 0} (lists : List (List A)) (last : List A) → joined (lists ++ last ∷ []) ≡ joined lists ++ last
joined-more [] last = append-nil last
joined-more (xs ∷ lists) last = ap (λ (l : List _). xs ++ l) (joined-more lists last) ∙ sym (append_assoc xs (joined lists) last)

pub each_more : {A : Type 0} (Spelled : A → List ℕ → Type 0) (vs : List A) (items : List (List ℕ)) (v : A) (bytes : List ℕ) → SpellEach Spelled vs items → Spelled v bytes → SpellEach Spelled (vs ++ v ∷ []) (items ++ bytes ∷ [])
each_more Spelled [] [] v bytes s one = (one, tt)
each_more Spelled (w ∷ vs) (i ∷ items) v bytes s one = (s.0, each_more Spelled vs items v bytes s.1 one)
each_more Spelled [] (i ∷ items) v bytes s one = absurd s
each_more Spelled (w ∷ vs) [] v bytes s one = absurd s

deepest-more : {A : Type 0} (deep : A → ℕ) (limit : ℕ) (vs : List A) (v : A) → deepest deep vs ≤ limit → deep v ≤ limit → deepest deep (vs ++ v ∷ []) ≤ limit
deepest-more deep limit [] v le lv = omega (arith, lv)
deepest-more deep limit (w ∷ vs) v le lv = let others = deepest-more deep limit vs v (omega (arith, le)) lv in omega (arith, others, le)

units_all-more : {A : Type 0} (units : A → ℕ) (vs : List A) (v : A) → units_all units (vs ++ v ∷ []) ≡ units_all units vs + (units v + 1)
units_all-more units [] v = omega arith
units_all-more units (w ∷ vs) v = let others = units_all-more units vs v in omega (arith, others)

pub counts_more : {A : Type 0} (deep units : A → ℕ) (vs : List A) (v : A) (m between opened after : Meter) → Counts (deepest deep vs) (units_all units vs) m between → OpensItem between opened → Counts (deep v) (units v) opened after → Counts (deepest deep (vs ++ v ∷ [])) (units_all units (vs ++ v ∷ [])) m after
counts_more deep units vs v m between opened after t o c = record {
  deep = deepest-more deep (MOST_DEPTH - m.depth) vs v t.deep (omega (arith, c.deep, o.same_depth, t.same_depth));
  many = omega (arith, units_all-more units vs v, t.many, t.counted, o.few, o.counted, c.many);
  same_depth = c.same_depth ∙ o.same_depth ∙ t.same_depth;
  counted = omega (arith, units_all-more units vs v, c.counted, o.counted, t.counted);
}
