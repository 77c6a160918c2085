-- What a walk over blocks passes is spelled so: from one item to the next.
use Rattle.std.proofs.Common.{◌≡◌, ℕ, zero, suc, ◌+◌, ◌-◌, List, [], ◌∷◌, ◌++◌, length, drop, Option, Some, None, true, ℤ, pos, negsuc, refl, sym, ap, subst, ◌∙◌, append_assoc, arith, lit<}
use Rattle.std.proofs.lemmas.Bool.{eqb-true}
use Rattle.std.proofs.lemmas.List.{length-append}
use Rattle.spec_avro.specs.declared.meter.Meter.{Meter}
use Rattle.spec_decoding.specs.BlockDecoding.{after_count, has_size, is_met, item_at, next_block, next_item, sized_block}
use Rattle.spec_avro.specs.Blocks.{IsHead, IsItems, SizeIs, joined}
use Rattle.spec_decoding.specs.Decoding.{Complete}
use Rattle.avro_bytes.specs.Decoding.{Stands}
use Rattle.spec_avro.specs.Number.{IsNumber, long_limit}
use Rattle.spec_decoding.specs.NumberDecoding.{number_at}
use Rattle.spec_decoding.specs.Walk.{Walk}
use Rattle.avro_bytes.specs.Walking.{IsMet, Leads, Remains}
use Rattle.avro_bytes.specs.Laws.Binds.{complete_is, rest_after, then_complete}
use Rattle.avro_bytes.specs.Laws.Numbers.{number_sound}
use Rattle.avro_bytes.specs.Laws.Walks.{item_takes, size_met, some_is}

-- ---- from an item on

-- what is passed at the beginning of a block
abbrev pub Heads : Walk → ℕ → List ℕ → Type 0
Heads next to head = (item : List ℕ) (items : List (List ℕ)) (rest : List ℕ) → Remains next (to + length item) items rest → IsItems (item ∷ items) (head ++ (item ++ rest))

one_more : (left : ℕ) (walk : Walk) (at : ℕ) (item : List ℕ) (items : List (List ℕ)) (rest : List ℕ) → Remains (record walk { left = left }) (at + length item) items rest → Remains (record walk { left = suc left }) at (item ∷ items) (item ++ rest)
one_more left walk at item items rest r = record {
  now = item ∷ r.now;
  later = r.later;
  rest = r.rest;
  all = ap (λ (xs : List (List ℕ)). item ∷ xs) r.all;
  many = ap suc r.many;
  parts = ap (λ (xs : List ℕ). item ++ xs) r.parts ∙ sym (append_assoc item (joined r.now) r.rest);
  met = subst (IsMet walk) (omega (arith, length-append item (joined r.now))) r.met;
  blocks = r.blocks;
}

-- no item of the block is left
pub none_left : (walk : Walk) (at : ℕ) (items : List (List ℕ)) (bytes : List ℕ) → IsMet walk at → IsItems items bytes → Remains (record walk { left = 0 }) at items bytes
none_left walk at items bytes met s = record { now = []; later = items; rest = bytes; all = refl; many = refl; parts = refl; met = subst (IsMet walk) (omega arith) met; blocks = s }

block_parts : (head item bytes rest : List ℕ) (now : List (List ℕ)) → bytes ≡ joined now ++ rest → head ++ (item ++ bytes) ≡ head ++ (joined (item ∷ now) ++ rest)
block_parts head item bytes rest now e = ap (λ (b : List ℕ). head ++ (item ++ b)) e ∙ ap (λ (b : List ℕ). head ++ b) (sym (append_assoc item (joined now) rest))

-- the head of a block of `suc left` items, and the walk that it begins
pub head_leads : (left count_at to : ℕ) (said : Option ℤ) (head : List ℕ) → IsHead (suc left) said head → Heads (record { left = left; count_at = count_at; items_at = to; size = said }) to head
head_leads left count_at to said head h item items rest r =
    let len : (to + length item) + length (joined r.now) - to ≡ length (joined (item ∷ r.now)) = omega (arith, length-append item (joined r.now)) in
    record {
      blocks = (item ∷ r.now) ∷ r.blocks.blocks;
      all = ap (λ (xs : List (List ℕ)). item ∷ (r.now ++ xs)) r.blocks.all ∙ ap (λ (xs : List (List ℕ)). item ∷ xs) (sym r.all);
      spelled = (
        head,
        r.rest,
        block_parts head item rest r.rest r.now r.parts,
        omega arith,
        (said, subst (λ (k : ℕ). IsHead (suc k) said head) (sym r.many) h, subst (SizeIs said) len r.met),
        r.blocks.spelled,
      );
    }

-- ---- what is decoded

-- the bytes of a count, and those of the size after it
pub joined_stands : (P : List ℕ → Type 0) (all first : List ℕ) (rest : List ℕ) (at mid to : ℕ) → drop at all ≡ first ++ rest → mid ≡ at + length first → Stands (λ second. P (first ++ second)) all mid to → Stands P all at to
joined_stands P all first rest at mid to parts end s = record {
  bytes = first ++ s.bytes;
  rest = s.rest;
  parts = parts ∙ ap (λ (b : List ℕ). first ++ b) (sym (rest_after first rest all at mid parts end) ∙ s.parts) ∙ sym (append_assoc first s.bytes s.rest);
  end = omega (arith, end, s.end, length-append first s.bytes);
  spelled = s.spelled;
}

item_stands : (P : Walk → ℕ → List ℕ → Type 0) (all : List ℕ) (walk next : Walk) (at place to : ℕ) (m after : Meter) → item_at walk place m ≡ Complete (Some next) to after → Stands (P walk place) all at place → Stands (P next to) all at to
item_stands P all walk next at place to m after e s =
    let i = item_takes walk place m (Some next) to after e in
    subst (λ (k : ℕ). Stands (P next k) all at k) i.2 (subst (λ (w : Walk). Stands (P w place) all at place) (some_is i.1) s)

sized_sound : (all : List ℕ) (count_at left at : ℕ) (m : Meter) (next : Walk) (to : ℕ) (after : Meter) (count : List ℕ) → IsNumber long_limit (negsuc left) count → sized_block all count_at left at m ≡ Complete (Some next) to after → Stands (λ size. Heads next to (count ++ size)) all at to
unfolding sized_block
sized_sound all count_at left at m next to after count c e =
    let t = then_complete (number_at long_limit all at m) (λ size items after. item_at (record { left = left; count_at = count_at; items_at = items; size = Some size }) items after) (Some next) to after e in
    let n = number_sound long_limit all at m t.first t.mid t.meter (lit< tt) t.first_is in
    let walk : Walk = record { left = left; count_at = count_at; items_at = t.mid; size = Some t.first } in
    item_stands (λ w k size. Heads w k (count ++ size)) all walk next at t.mid to t.meter after t.next_is (record {
      bytes = n.0.bytes;
      rest = n.0.rest;
      parts = n.0.parts;
      end = n.0.end;
      spelled = head_leads left count_at t.mid (Some t.first) (count ++ n.0.bytes) (record { count_bytes = count; size_bytes = n.0.bytes; parts = refl; number = c; said = n.0.spelled });
    })

count_sound : (all : List ℕ) (at : ℕ) (n : ℤ) (mid : ℕ) (m : Meter) (next : Walk) (to : ℕ) (after : Meter) → Stands (IsNumber long_limit n) all at mid → after_count all at n mid m ≡ Complete (Some next) to after → Stands (Heads next to) all at to
count_sound all at (pos zero) mid m next to after s e = absurd (let f = complete_is e in let g = f.0 in cc)
count_sound all at (pos (suc n)) mid m next to after s e =
    item_stands Heads all (record { left = n; count_at = at; items_at = mid; size = None }) next at mid to m after e (record { bytes = s.bytes; rest = s.rest; parts = s.parts; end = s.end; spelled = head_leads n at mid None s.bytes s.spelled })
count_sound all at (negsuc n) mid m next to after s e =
    joined_stands (Heads next to) all s.bytes s.rest at mid to s.parts s.end (sized_sound all at n mid m next to after s.bytes s.spelled e)

block_sound : (all : List ℕ) (at : ℕ) (m : Meter) (next : Walk) (to : ℕ) (after : Meter) → next_block all at m ≡ Complete (Some next) to after → Stands (Heads next to) all at to
unfolding next_block
block_sound all at m next to after e =
    let t = then_complete (number_at long_limit all at m) (after_count all at) (Some next) to after e in
    count_sound all at t.first t.mid t.meter next to after (number_sound long_limit all at m t.first t.mid t.meter (lit< tt) t.first_is).0 t.next_is

pub of_size : (size : Option ℤ) (len : ℕ) → has_size size len ≡ true → SizeIs size len
of_size None len e = tt
of_size (Some (pos n)) len e = ap pos (eqb-true n len e)
of_size (Some (negsuc n)) len e = absurd cc

pub size_is : (walk : Walk) (at : ℕ) → is_met walk at ≡ true → IsMet walk at
size_is walk at e = of_size walk.size (at - walk.items_at) e

pub as_stands : (P Q : List ℕ → Type 0) (all : List ℕ) (at to : ℕ) → ((bytes : List ℕ) → P bytes → Q bytes) → Stands P all at to → Stands Q all at to
as_stands P Q all at to f s = record { bytes = s.bytes; rest = s.rest; parts = s.parts; end = s.end; spelled = f s.bytes s.spelled }

left_sound : (left : ℕ) (walk : Walk) (all : List ℕ) (at : ℕ) (m : Meter) (next : Walk) (to : ℕ) (after : Meter) → next_item (record walk { left = left }) all at m ≡ Complete (Some next) to after → Stands (Leads (record walk { left = left }) at next to) all at to
unfolding next_item
left_sound zero walk all at m next to after e =
    let s = size_met (is_met walk at) all walk.count_at at m (Some next) to after e in
    as_stands (Heads next to) (Leads (record walk { left = 0 }) at next to) all at to
    (λ head h item items rest r. none_left walk at (item ∷ items) (head ++ (item ++ rest)) (size_is walk at s.0) (h item items rest r))
    (block_sound all at m next to after s.1)
left_sound (suc left) walk all at m next to after e =
    item_stands (Leads (record walk { left = suc left }) at) all (record walk { left = left }) next at at to m after e (record {
      bytes = [];
      rest = drop at all;
      parts = refl;
      end = omega arith;
      spelled = λ item items rest r. one_more left walk at item items rest r;
    })

-- the bytes up to the next item lead to it
pub step_sound : (walk : Walk) (all : List ℕ) (at : ℕ) (m : Meter) (next : Walk) (to : ℕ) (after : Meter) → next_item walk all at m ≡ Complete (Some next) to after → Stands (Leads walk at next to) all at to
step_sound walk all at m next to after e = left_sound walk.left walk all at m next to after e
