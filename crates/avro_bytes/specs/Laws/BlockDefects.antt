-- The first fault of a walk over blocks, both ways: what is reported is there, and what is there is reported.
use Rattle.std.proofs.Common.{◌≡◌, ℕ, zero, suc, ◌+◌, ◌<◌, ◌⊎◌, List, ◌++◌, length, drop, Option, Some, None, Bool, true, false, cond, ℤ, pos, negsuc, refl, sym, ap, subst, ◌∙◌, append_assoc, arith, inl, inr, lit<}
use Rattle.std.proofs.lemmas.List.{length-append}
use Rattle.spec_avro.specs.declared.malformed.MalformedKind.TheVariants.{BadBlock}
use Rattle.spec_avro.specs.declared.meter.Meter.{Meter}
use Rattle.spec_decoding.specs.BlockDecoding.{after_count, is_met, item_at, next_block, next_item, sized_block}
use Rattle.spec_avro.specs.BlockFault.{BeginsBlock, FaultyHead, IsFaultySize, IsRefusedFirst}
use Rattle.spec_avro.specs.Blocks.{IsHead}
use Rattle.spec_decoding.specs.Decoding.{Complete, Decoding, Failed, ◌>>=◌}
use Rattle.avro_bytes.specs.Decoding.{Stands}
use Rattle.spec_avro.specs.Defect.{Defect, Malformed}
use Rattle.spec_avro.specs.Fault.{FaultyNumber, shifted}
use Rattle.avro_bytes.specs.Fault.{HasDefect, failing}
use Rattle.spec_avro.specs.Meter.{RefusesItem}
use Rattle.spec_avro.specs.Number.{IsNumber, long_limit}
use Rattle.spec_decoding.specs.NumberDecoding.{number_at}
use Rattle.spec_decoding.specs.Walk.{Walk}
use Rattle.avro_bytes.specs.Walking.{IsMet}
use Rattle.avro_bytes.specs.Laws.Binds.{defect_after, defect_as, defect_then, failing_shifted, failing_then, rest_after}
use Rattle.avro_bytes.specs.Laws.BlockSteps.{size_is}
use Rattle.avro_bytes.specs.Laws.BlocksAgain.{head_again, headed, met_end, met_is}
use Rattle.avro_bytes.specs.Laws.Defects.{number_defect, number_told}
use Rattle.avro_bytes.specs.Laws.Meters.{item_defect, item_refused_told}
use Rattle.avro_bytes.specs.Laws.Numbers.{number_again, number_sound}

item_refused : (walk : Walk) (at : ℕ) (m : Meter) → HasDefect (item_at walk at m) at (RefusesItem m)
item_refused walk at m = item_defect (λ within. Complete (Some walk) at within) at m (RefusesItem m) (λ d r. r) (λ within o. tt)

-- a first item that is refused
first_refused : (all head rest : List ℕ) (walk : Walk) (at mid : ℕ) (m : Meter) → drop at all ≡ head ++ rest → mid ≡ at + length head → BeginsBlock head → HasDefect (item_at walk mid m) at (FaultyHead (drop at all) m)
first_refused all head rest walk at mid m parts end begins =
    defect_after (item_at walk mid m) at (length head) mid (RefusesItem m) (FaultyHead (drop at all) m) end
    (λ d r. let first : IsRefusedFirst (drop at all) m (shifted (length head) d) = record { head = head; rest = rest; inner = d; parts = parts; begins = begins; refused = r; place = refl } in inr (inr first))
    (item_refused walk mid m)

sized_defect : (all count rest : List ℕ) (at n mid : ℕ) (m : Meter) → drop at all ≡ count ++ rest → mid ≡ at + length count → IsNumber long_limit (negsuc n) count → HasDefect (sized_block all at n mid m) at (FaultyHead (drop at all) m)
unfolding sized_block
sized_defect all count rest at n mid m parts end c =
    let here : drop mid all ≡ rest = rest_after count rest all at mid parts end in
    let walk : ℤ → ℕ → Walk = λ size items. record { left = n; count_at = at; items_at = items; size = Some size } in
    defect_then (number_at long_limit all mid m) (λ size items after. item_at (walk size items) items after) at (FaultyHead (drop at all) m)
    (defect_after (number_at long_limit all mid m) at (length count) mid (FaultyNumber long_limit (drop mid all)) (FaultyHead (drop at all) m) end
    (λ d f.
    let faulty : IsFaultySize (drop at all) (shifted (length count) d) = record { count = count; rest = rest; n = n; inner = d; parts = parts; number = c; faulty = subst (λ (b : List ℕ). FaultyNumber long_limit b d) here f; place = refl } in
    inr (inl faulty))
    (number_defect long_limit all mid m (lit< tt)))
    (λ size items after e.
    let s = number_sound long_limit all mid m size items after (lit< tt) e in
    let whole : drop at all ≡ (count ++ s.0.bytes) ++ s.0.rest = parts ∙ ap (λ (b : List ℕ). count ++ b) (sym here ∙ s.0.parts) ∙ sym (append_assoc count s.0.bytes s.0.rest) in
    let said : IsHead (suc n) (Some size) (count ++ s.0.bytes) = record { count_bytes = count; size_bytes = s.0.bytes; parts = refl; number = c; said = s.0.spelled } in
    subst (λ (x : Meter). HasDefect (item_at (walk size items) items x) at (FaultyHead (drop at all) m)) s.1
    (first_refused all (count ++ s.0.bytes) s.0.rest (walk size items) at items m whole (omega (arith, end, s.0.end, length-append count s.0.bytes)) (n, Some size, said)))

count_defect : (all : List ℕ) (at : ℕ) (n : ℤ) (mid : ℕ) (m : Meter) → Stands (IsNumber long_limit n) all at mid → HasDefect (after_count all at n mid m) at (FaultyHead (drop at all) m)
count_defect all at (pos zero) mid m s = tt
count_defect all at (pos (suc n)) mid m s = first_refused all s.bytes s.rest (record { left = n; count_at = at; items_at = mid; size = None }) at mid m s.parts s.end (n, None, s.spelled)
count_defect all at (negsuc n) mid m s = sized_defect all s.bytes s.rest at n mid m s.parts s.end s.spelled

pub head_defect : (all : List ℕ) (at : ℕ) (m : Meter) → HasDefect (next_block all at m) at (FaultyHead (drop at all) m)
unfolding next_block
head_defect all at m =
    defect_then (number_at long_limit all at m) (after_count all at) at (FaultyHead (drop at all) m)
    (defect_as (number_at long_limit all at m) at (FaultyNumber long_limit (drop at all)) (FaultyHead (drop at all) m) (λ d f. inl f) (number_defect long_limit all at m (lit< tt)))
    (λ n mid after e.
    let s = number_sound long_limit all at m n mid after (lit< tt) e in
    subst (λ (x : Meter). HasDefect (after_count all at n mid x) at (FaultyHead (drop at all) m)) s.1 (count_defect all at n mid m s.0))

-- ---- and back

first_told : (walk : Walk) (before head : List ℕ) (m : Meter) (inner d : Defect) → RefusesItem m inner → d ≡ shifted (length head) inner → item_at walk (length before + length head) m ≡ failing (length before) d
first_told walk before head m inner d r place =
    item_refused_told (λ within. Complete (Some walk) (length before + length head) within) (length before + length head) m inner r
    ∙ failing_shifted (length before) (length head) inner ∙ ap (failing (length before)) (sym place)

begins_told : (before head rest : List ℕ) (m : Meter) (inner d : Defect) → BeginsBlock head → RefusesItem m inner → d ≡ shifted (length head) inner → next_block (before ++ (head ++ rest)) (length before) m ≡ failing (length before) d
begins_told before head rest m inner d b r place =
    head_again before head rest b.0 b.1 m b.2 ∙ first_told (headed b.0 (length before) b.1 head) before head m inner d r place

size_told : (before count rest : List ℕ) (n : ℕ) (m : Meter) (inner d : Defect) → IsNumber long_limit (negsuc n) count → FaultyNumber long_limit rest inner → d ≡ shifted (length count) inner → next_block (before ++ (count ++ rest)) (length before) m ≡ failing (length before) d
unfolding next_block sized_block
size_told before count rest n m inner d c f place =
    let all = before ++ (count ++ rest) in
    let then : ℤ → ℕ → Meter → Decoding (Option Walk) = λ size items after. item_at (record { left = n; count_at = length before; items_at = items; size = Some size }) items after in
    let first : number_at long_limit all (length before) m ≡ Complete (negsuc n) (length before + length count) m = number_again long_limit before count rest (negsuc n) m c in
    let told : number_at long_limit ((before ++ count) ++ rest) (length (before ++ count)) m ≡ failing (length (before ++ count)) inner = number_told long_limit (before ++ count) rest m inner f in
    let second : number_at long_limit all (length before + length count) m ≡ failing (length before + length count) inner =
    subst (λ (k : ℕ). number_at long_limit all k m ≡ failing k inner) (length-append before count) (subst (λ (b : List ℕ). number_at long_limit b (length (before ++ count)) m ≡ failing (length (before ++ count)) inner) (append_assoc before count rest) told) in
    ap (λ x. x >>= after_count all (length before)) first
    ∙ ap (λ x. x >>= then) second ∙ failing_then (length before + length count) inner then
    ∙ failing_shifted (length before) (length count) inner ∙ ap (failing (length before)) (sym place)

number_first_told : (before bytes : List ℕ) (m : Meter) (d : Defect) → FaultyNumber long_limit bytes d → next_block (before ++ bytes) (length before) m ≡ failing (length before) d
unfolding next_block
number_first_told before bytes m d f = ap (λ x. x >>= after_count (before ++ bytes) (length before)) (number_told long_limit before bytes m d f) ∙ failing_then (length before) d (after_count (before ++ bytes) (length before))

pub head_told : (before bytes : List ℕ) (m : Meter) (d : Defect) → FaultyHead bytes m d → next_block (before ++ bytes) (length before) m ≡ failing (length before) d
head_told before bytes m d (inl f) = number_first_told before bytes m d f
head_told before bytes m d (inr (inl s)) =
    ap (λ (b : List ℕ). next_block (before ++ b) (length before) m) s.parts ∙ size_told before s.count s.rest s.n m s.inner d s.number s.faulty s.place
head_told before bytes m d (inr (inr r)) =
    ap (λ (b : List ℕ). next_block (before ++ b) (length before) m) r.parts ∙ begins_told before r.head r.rest m r.inner d r.begins r.refused r.place

-- ---- from inside the blocks

inside_defect : (left : ℕ) (walk : Walk) (all : List ℕ) (at : ℕ) (m : Meter) → 0 < left → HasDefect (next_item (record walk { left = left }) all at m) at (RefusesItem m)
unfolding next_item
inside_defect zero walk all at m some = absurd (omega arith)
inside_defect (suc left) walk all at m some = item_refused (record walk { left = left }) at m

-- within a block: only the next item can be refused
pub within_defect : (walk : Walk) (all : List ℕ) (at : ℕ) (m : Meter) → 0 < walk.left → HasDefect (next_item walk all at m) at (RefusesItem m)
within_defect walk all at m some = inside_defect walk.left walk all at m some

inside_told : (left : ℕ) (walk : Walk) (all : List ℕ) (at : ℕ) (m : Meter) (d : Defect) → 0 < left → RefusesItem m d → next_item (record walk { left = left }) all at m ≡ failing at d
unfolding next_item
inside_told zero walk all at m d some r = absurd (omega arith)
inside_told (suc left) walk all at m d some r = item_refused_told (λ within. Complete (Some (record walk { left = left })) at within) at m d r

pub within_told : (walk : Walk) (all : List ℕ) (at : ℕ) (m : Meter) (d : Defect) → 0 < walk.left → RefusesItem m d → next_item walk all at m ≡ failing at d
within_told walk all at m d some r = inside_told walk.left walk all at m d some r

-- after a block that has its size: what is read where the next should begin
pub after_met : (walk : Walk) (all : List ℕ) (at : ℕ) (m : Meter) → walk.left ≡ 0 → IsMet walk at → next_item walk all at m ≡ next_block all at m
after_met walk all at m none met = ap (λ (k : ℕ). next_item (record walk { left = k }) all at m) none ∙ met_end walk all at m met

-- after a block of another size
unmet : (met : Bool) (walk : Walk) (at : ℕ) → is_met walk at ≡ met → ¬ (IsMet walk at) → met ≡ false
unmet true walk at e bad = absurd (bad (size_is walk at e))
unmet false walk at e bad = refl

unmet_told : (walk : Walk) (all : List ℕ) (at : ℕ) (m : Meter) → ¬ (IsMet walk at) → next_item (record walk { left = 0 }) all at m ≡ Failed (Malformed BadBlock walk.count_at)
unfolding next_item
unmet_told walk all at m bad = ap (λ (b : Bool). cond b (next_block all at m) (Failed (Malformed BadBlock walk.count_at))) (unmet (is_met walk at) walk at refl bad)

pub bad_block_told : (walk : Walk) (all : List ℕ) (at : ℕ) (m : Meter) → walk.left ≡ 0 → ¬ (IsMet walk at) → next_item walk all at m ≡ Failed (Malformed BadBlock walk.count_at)
bad_block_told walk all at m none bad = ap (λ (k : ℕ). next_item (record walk { left = k }) all at m) none ∙ unmet_told walk all at m bad

met_or_not : (met : Bool) (walk : Walk) (at : ℕ) → is_met walk at ≡ met → IsMet walk at ⊎ ¬ (IsMet walk at)
met_or_not true walk at e = inl (size_is walk at e)
met_or_not false walk at e = inr (λ met. let t : is_met walk at ≡ true = met_is walk at met in absurd cc)

-- it has its size or not
pub decide_met : (walk : Walk) (at : ℕ) → IsMet walk at ⊎ ¬ (IsMet walk at)
decide_met walk at = met_or_not (is_met walk at) walk at refl
