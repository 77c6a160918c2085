-- Items that remain to a walk over blocks are come to, one after another, and then the end.
use Rattle.std.proofs.Common.{◌≡◌, ℕ, zero, suc, ◌+◌, ◌-◌, List, [], ◌∷◌, ◌++◌, length, Option, Some, None, Bool, true, cond, ℤ, pos, negsuc, refl, sym, ap, subst, ◌∙◌, append_assoc, arith}
use Rattle.std.proofs.lemmas.Bool.{eq-eqb}
use Rattle.std.proofs.lemmas.List.{length-append}
use Rattle.spec_avro.specs.declared.malformed.MalformedKind.TheVariants.{BadBlock}
use Rattle.spec_avro.specs.declared.meter.Meter.{Meter}
use Rattle.spec_decoding.specs.BlockDecoding.{after_count, has_size, is_met, item_at, next_block, next_item, sized_block}
use Rattle.spec_avro.specs.Blocks.{IsBlocks, IsHead, IsItems, SizeIs, joined}
use Rattle.spec_decoding.specs.Decoding.{Complete, Decoding, Failed, ◌>>=◌}
use Rattle.spec_avro.specs.Defect.{Malformed}
use Rattle.spec_decoding.specs.Opening.{closed_blocks}
use Rattle.spec_avro.specs.Number.{IsNumber, long_limit}
use Rattle.spec_decoding.specs.NumberDecoding.{number_at}
use Rattle.spec_decoding.specs.Walk.{Walk}
use Rattle.avro_bytes.specs.Walking.{Comes, IsMet, Remains}
use Rattle.avro_bytes.specs.Laws.Numbers.{number_again, pos_is}

-- ---- within a block

within_block : (left : ℕ) (walk : Walk) (at : ℕ) (item : List ℕ) (items : List (List ℕ)) (bytes : List ℕ) (now later : List (List ℕ)) (rest : List ℕ)
    → length now ≡ suc left → item ∷ items ≡ now ++ later → bytes ≡ joined now ++ rest → IsMet walk (at + length (joined now)) → IsItems later rest
    → Comes (record walk { left = suc left }) at item items bytes
unfolding next_item
within_block left walk at item items bytes [] later rest many all parts met s = absurd (omega (arith, many))
within_block left walk at item items bytes (x ∷ now) later rest many all parts met s =
    let same : item ≡ x = cc in
    let others : items ≡ now ++ later = cc in
    record {
      next = record walk { left = left };
      head = [];
      rest = joined now ++ rest;
      parts = parts ∙ append_assoc x (joined now) rest ∙ ap (λ (b : List ℕ). b ++ (joined now ++ rest)) (sym same);
      still = record {
        now = now;
        later = later;
        rest = rest;
        all = others;
        many = let m : length now ≡ left = omega (arith, many) in m;
        parts = refl;
        met = subst (IsMet walk) (omega (arith, ap length same, length-append x (joined now))) met;
        blocks = s;
      };
      goes = λ before more m e. ap (λ (k : ℕ). item_at (record walk { left = left }) k m) (let z : at ≡ at + 0 = omega arith in z);
    }

-- ---- at the head of a block

pub has_its_size : (size : Option ℤ) (len : ℕ) → SizeIs size len → has_size size len ≡ true
has_its_size None len e = refl
has_its_size (Some (pos n)) len e = eq-eqb n len (pos_is e)
has_its_size (Some (negsuc n)) len e = absurd cc

pub met_is : (walk : Walk) (at : ℕ) → IsMet walk at → is_met walk at ≡ true
met_is walk at met = has_its_size walk.size (at - walk.items_at) met

-- where a block has its size, what comes after it decides
pub met_end : (walk : Walk) (all : List ℕ) (at : ℕ) (m : Meter) → IsMet walk at → next_item (record walk { left = 0 }) all at m ≡ next_block all at m
unfolding next_item
met_end walk all at m met = ap (λ (b : Bool). cond b (next_block all at m) (Failed (Malformed BadBlock walk.count_at))) (met_is walk at met)

plain_again : (before head more : List ℕ) (left : ℕ) (m : Meter) → IsNumber long_limit (pos (suc left)) head
    → next_block (before ++ (head ++ more)) (length before) m ≡ item_at (record { left = left; count_at = length before; items_at = length before + length head; size = None }) (length before + length head) m
unfolding next_block
plain_again before head more left m n = ap (λ x. x >>= after_count (before ++ (head ++ more)) (length before)) (number_again long_limit before head more (pos (suc left)) m n)

sized_again : (before count size more : List ℕ) (left : ℕ) (len : ℤ) (m : Meter) → IsNumber long_limit (negsuc left) count → IsNumber long_limit len size
    → next_block (before ++ ((count ++ size) ++ more)) (length before) m ≡ item_at (record { left = left; count_at = length before; items_at = length before + length (count ++ size); size = Some len }) (length before + length (count ++ size)) m
unfolding next_block sized_block
sized_again before count size more left len m c s =
    let all = before ++ (count ++ (size ++ more)) in
    let mid = length before + length count in
    let first : number_at long_limit all (length before) m ≡ Complete (negsuc left) mid m = number_again long_limit before count (size ++ more) (negsuc left) m c in
    let inner : number_at long_limit ((before ++ count) ++ (size ++ more)) (length (before ++ count)) m ≡ Complete len (length (before ++ count) + length size) m = number_again long_limit (before ++ count) size more len m s in
    let place : length (before ++ count) ≡ mid = length-append before count in
    let end : mid + length size ≡ length before + length (count ++ size) = omega (arith, length-append count size) in
    let second : number_at long_limit all mid m ≡ Complete len (mid + length size) m = subst (λ (k : ℕ). number_at long_limit all k m ≡ Complete len (k + length size) m) place (subst (λ (b : List ℕ). number_at long_limit b (length (before ++ count)) m ≡ Complete len (length (before ++ count) + length size) m) (append_assoc before count (size ++ more)) inner) in
    let made : ℕ → Decoding (Option Walk) = λ k. item_at (record { left = left; count_at = length before; items_at = k; size = Some len }) k m in
    ap (λ (b : List ℕ). next_block (before ++ b) (length before) m) (append_assoc count size more)
    ∙ ap (λ x. x >>= after_count all (length before)) first
    ∙ ap (λ x. x >>= λ size items after. item_at (record { left = left; count_at = length before; items_at = items; size = Some size }) items after) second
    ∙ ap made end

-- the walk that a head begins at an offset
abbrev pub headed : ℕ → ℕ → Option ℤ → List ℕ → Walk
headed left at said head = record { left = left; count_at = at; items_at = at + length head; size = said }

-- a head is read again
pub head_again : (before head more : List ℕ) (left : ℕ) (said : Option ℤ) (m : Meter) → IsHead (suc left) said head
    → next_block (before ++ (head ++ more)) (length before) m ≡ item_at (headed left (length before) said head) (length before + length head) m
head_again before head more left None m h = plain_again before head more left m h
head_again before head more left (Some size) m h =
    subst (λ (b : List ℕ). next_block (before ++ (b ++ more)) (length before) m ≡ item_at (headed left (length before) (Some size) b) (length before + length b) m) (sym h.parts)
    (sized_again before h.count_bytes h.size_bytes more left size m h.number h.said)

-- what a block begins with
record Heading (at : ℕ) (item : List ℕ) (items : List (List ℕ)) (bytes : List ℕ) : Type 0 where
  next : Walk
  head : List ℕ
  rest : List ℕ
  parts : bytes ≡ head ++ (item ++ rest)
  still : Remains next ((at + length head) + length item) items rest
  goes : (before more : List ℕ) (m : Meter) → length before ≡ at → next_block (before ++ (head ++ more)) at m ≡ item_at next (at + length head) m

heading_of : (at : ℕ) (item : List ℕ) (now : List (List ℕ)) (blocks : List (List (List ℕ))) (head rest : List ℕ) (said : Option ℤ) → IsHead (suc (length now)) said head → SizeIs said (length (joined (item ∷ now))) → IsBlocks blocks rest
    → Heading at item (now ++ joined blocks) (head ++ (joined (item ∷ now) ++ rest))
heading_of at item now blocks head rest said h size s =
    let len : length (joined (item ∷ now)) ≡ ((at + length head) + length item) + length (joined now) - (at + length head) = omega (arith, length-append item (joined now)) in
    record {
      next = headed (length now) at said head;
      head = head;
      rest = joined now ++ rest;
      parts = ap (λ (b : List ℕ). head ++ b) (append_assoc item (joined now) rest);
      still = record { now = now; later = joined blocks; rest = rest; all = refl; many = refl; parts = refl; met = subst (SizeIs said) len size; blocks = record { blocks = blocks; all = refl; spelled = s } };
      goes = λ before more m e. subst (λ (k : ℕ). next_block (before ++ (head ++ more)) k m ≡ item_at (headed (length now) k said head) (k + length head) m) e (head_again before head more (length now) said m h);
    }

blocks_heading : (at : ℕ) (item : List ℕ) (items : List (List ℕ)) (blocks : List (List (List ℕ))) (bytes : List ℕ) → joined blocks ≡ item ∷ items → IsBlocks blocks bytes → Heading at item items bytes
blocks_heading at item items [] bytes all s = absurd cc
blocks_heading at item items ([] ∷ blocks) bytes all s = absurd (let none = s.3 in omega arith)
blocks_heading at item items ((x ∷ now) ∷ blocks) bytes all s =
    let first : x ≡ item = cc in
    let others : now ++ joined blocks ≡ items = cc in
    let said = s.4 in
    let made : Heading at x (now ++ joined blocks) bytes = subst (Heading at x (now ++ joined blocks)) (sym s.2) (heading_of at x now blocks s.0 s.1 said.0 said.1 said.2 s.5) in
    subst (λ (i : List ℕ). Heading at i items bytes) first (subst (λ (i : List (List ℕ)). Heading at x i bytes) others made)

after_block : (walk : Walk) (at : ℕ) (item : List ℕ) (items : List (List ℕ)) (bytes : List ℕ) → IsMet walk at → Heading at item items bytes → Comes (record walk { left = 0 }) at item items bytes
after_block walk at item items bytes met h = record {
  next = h.next;
  head = h.head;
  rest = h.rest;
  parts = h.parts;
  still = h.still;
  goes = λ before more m e. met_end walk (before ++ (h.head ++ more)) at m met ∙ h.goes before more m e;
}

comes_left : (left : ℕ) (walk : Walk) (at : ℕ) (item : List ℕ) (items : List (List ℕ)) (bytes : List ℕ) (now later : List (List ℕ)) (rest : List ℕ)
    → length now ≡ left → item ∷ items ≡ now ++ later → bytes ≡ joined now ++ rest → IsMet walk (at + length (joined now)) → IsItems later rest
    → Comes (record walk { left = left }) at item items bytes
comes_left (suc left) walk at item items bytes now later rest many all parts met s = within_block left walk at item items bytes now later rest many all parts met s
comes_left zero walk at item items bytes (x ∷ now) later rest many all parts met s = absurd (omega (arith, many))
comes_left zero walk at item items bytes [] later rest many all parts met s =
    let here : IsMet walk at = subst (IsMet walk) (let z : at + 0 ≡ at = omega arith in z) met in
    after_block walk at item items bytes here (blocks_heading at item items s.blocks bytes (s.all ∙ sym all) (subst (IsBlocks s.blocks) (sym parts) s.spelled))

-- an item that remains is come to
pub step_complete : (walk : Walk) (at : ℕ) (item : List ℕ) (items : List (List ℕ)) (bytes : List ℕ) → Remains walk at (item ∷ items) bytes → Comes walk at item items bytes
step_complete walk at item items bytes r = comes_left walk.left walk at item items bytes r.now r.later r.rest r.many r.all r.parts r.met r.blocks

-- ---- the end

end_again : (before bytes more : List ℕ) (m : Meter) → IsNumber long_limit (pos 0) bytes → next_block (before ++ (bytes ++ more)) (length before) m ≡ Complete None (length before + length bytes) (closed_blocks m)
unfolding next_block
end_again before bytes more m n = ap (λ x. x >>= after_count (before ++ (bytes ++ more)) (length before)) (number_again long_limit before bytes more (pos 0) m n)

blocks_end : (blocks : List (List (List ℕ))) (before bytes more : List ℕ) (m : Meter) → joined blocks ≡ [] → IsBlocks blocks bytes → next_block (before ++ (bytes ++ more)) (length before) m ≡ Complete None (length before + length bytes) (closed_blocks m)
blocks_end [] before bytes more m all s = end_again before bytes more m s
blocks_end ([] ∷ blocks) before bytes more m all s = absurd (let none = s.3 in omega arith)
blocks_end ((x ∷ now) ∷ blocks) before bytes more m all s = absurd cc

end_left : (left : ℕ) (walk : Walk) (before bytes more : List ℕ) (m : Meter) (now later : List (List ℕ)) (rest : List ℕ)
    → length now ≡ left → [] ≡ now ++ later → bytes ≡ joined now ++ rest → IsMet walk (length before + length (joined now)) → IsItems later rest
    → next_item (record walk { left = left }) (before ++ (bytes ++ more)) (length before) m ≡ Complete None (length before + length bytes) (closed_blocks m)
end_left left walk before bytes more m (x ∷ now) later rest many all parts met s = absurd cc
end_left (suc left) walk before bytes more m [] later rest many all parts met s = absurd cc
end_left zero walk before bytes more m [] later rest many all parts met s =
    let here : IsMet walk (length before) = subst (IsMet walk) (let z : length before + 0 ≡ length before = omega arith in z) met in
    met_end walk (before ++ (bytes ++ more)) (length before) m here
    ∙ blocks_end s.blocks before bytes more m (s.all ∙ sym all) (subst (IsBlocks s.blocks) (sym parts) s.spelled)

-- where none remains, the walk ends after the blocks
pub end_complete : (walk : Walk) (before bytes more : List ℕ) (m : Meter) → Remains walk (length before) [] bytes → next_item walk (before ++ (bytes ++ more)) (length before) m ≡ Complete None (length before + length bytes) (closed_blocks m)
end_complete walk before bytes more m r = end_left walk.left walk before bytes more m r.now r.later r.rest r.many r.all r.parts r.met r.blocks
