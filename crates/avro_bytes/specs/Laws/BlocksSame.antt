-- A walk over blocks stays as it was decided, and the same bytes lead it to one item alone, or to the end.
use Rattle.std.proofs.Common.{◌≡◌, ◌≢◌, ℕ, zero, suc, ◌+◌, ◌≤◌, List, [], ◌++◌, length, take, replicate, Option, Some, None, Bool, true, false, cond, ℤ, pos, negsuc, refl, sym, ap, subst, ◌∙◌, append_assoc, arith, lit<}
use Rattle.std.proofs.lemmas.List.{append_cancel_left, length-replicate, take_at}
use Rattle.spec_avro.specs.declared.malformed.MalformedKind.TheVariants.{BadBlock}
use Rattle.spec_avro.specs.declared.meter.Meter.{Meter}
use Rattle.spec_decoding.specs.BlockDecoding.{after_count, is_met, item_at, next_block, next_item, sized_block}
use Rattle.spec_decoding.specs.Decoding.{Complete, Decoding, Failed}
use Rattle.spec_avro.specs.Defect.{Malformed, Need}
use Rattle.spec_decoding.specs.Opening.{closed_blocks}
use Rattle.spec_avro.specs.Meter.{start}
use Rattle.spec_avro.specs.Number.{IsNumber, long_limit}
use Rattle.spec_decoding.specs.NumberDecoding.{number_at}
use Rattle.spec_decoding.specs.Walk.{Walk}
use Rattle.avro_bytes.specs.Walking.{Comes, Remains}
use Rattle.avro_bytes.specs.Laws.Binds.{complete_is, stands_within, then_steady}
use Rattle.avro_bytes.specs.Laws.BlocksAgain.{end_complete}
use Rattle.avro_bytes.specs.Laws.Numbers.{number_sound, number_steady}
use Rattle.avro_bytes.specs.Laws.Walks.{some_is}

sized_steady : (all more : List ℕ) (count_at left at : ℕ) (m : Meter) → at ≤ length all → sized_block all count_at left at m ≢ Failed Need → sized_block (all ++ more) count_at left at m ≡ sized_block all count_at left at m
unfolding sized_block
sized_steady all more count_at left at m le c =
    let then : ℤ → ℕ → Meter → Decoding (Option Walk) = λ size items after. item_at (record { left = left; count_at = count_at; items_at = items; size = Some size }) items after in
    then_steady (number_at long_limit all at m) (number_at long_limit (all ++ more) at m) then then (number_steady long_limit all more at m le) (λ size items after e d. refl) c

count_steady : (all more : List ℕ) (at : ℕ) (n : ℤ) (mid : ℕ) (m : Meter) → mid ≤ length all → after_count all at n mid m ≢ Failed Need → after_count (all ++ more) at n mid m ≡ after_count all at n mid m
count_steady all more at (pos zero) mid m le c = refl
count_steady all more at (pos (suc n)) mid m le c = refl
count_steady all more at (negsuc n) mid m le c = sized_steady all more at n mid m le c

block_steady : (all more : List ℕ) (at : ℕ) (m : Meter) → at ≤ length all → next_block all at m ≢ Failed Need → next_block (all ++ more) at m ≡ next_block all at m
unfolding next_block
block_steady all more at m le c =
    then_steady (number_at long_limit all at m) (number_at long_limit (all ++ more) at m) (after_count all at) (after_count (all ++ more) at)
    (number_steady long_limit all more at m le)
    (λ n mid after e. count_steady all more at n mid after (stands_within (IsNumber long_limit n) all at mid le (number_sound long_limit all at m n mid after (lit< tt) e).0))
    c

met_steady : (met : Bool) (all more : List ℕ) (count_at at : ℕ) (m : Meter) → at ≤ length all → cond met (next_block all at m) (Failed (Malformed BadBlock count_at)) ≢ Failed Need
    → cond met (next_block (all ++ more) at m) (Failed (Malformed BadBlock count_at)) ≡ cond met (next_block all at m) (Failed (Malformed BadBlock count_at))
met_steady true all more count_at at m le c = block_steady all more at m le c
met_steady false all more count_at at m le c = refl

left_steady : (left : ℕ) (walk : Walk) (all more : List ℕ) (at : ℕ) (m : Meter) → at ≤ length all → next_item (record walk { left = left }) all at m ≢ Failed Need
    → next_item (record walk { left = left }) (all ++ more) at m ≡ next_item (record walk { left = left }) all at m
unfolding next_item
left_steady zero walk all more at m le c = met_steady (is_met walk at) all more walk.count_at at m le c
left_steady (suc left) walk all more at m le c = refl

-- what is decided stays so when more bytes come
pub walk_steady : (walk : Walk) (all more : List ℕ) (at : ℕ) (m : Meter) → at ≤ length all → next_item walk all at m ≢ Failed Need → next_item walk (all ++ more) at m ≡ next_item walk all at m
walk_steady walk all more at m le c = left_steady walk.left walk all more at m le c

-- ---- one item alone

abbrev one_unit : Meter
one_unit = record { depth = 0; units = 1 }

comes_at : (walk : Walk) (before : List ℕ) (at : ℕ) (item : List ℕ) (items : List (List ℕ)) (a x : List ℕ) (p : Comes walk at item items a) → length before ≡ at → next_item walk (before ++ (a ++ x)) at start ≡ Complete (Some p.next) (at + length p.head) one_unit
comes_at walk before at item items a x p e =
    let whole : a ++ x ≡ p.head ++ (item ++ (p.rest ++ x)) = ap (λ (b : List ℕ). b ++ x) p.parts ∙ append_assoc p.head (item ++ p.rest) x ∙ ap (λ (b : List ℕ). p.head ++ b) (append_assoc item p.rest x) in
    ap (λ (b : List ℕ). next_item walk (before ++ b) at start) whole ∙ p.goes before (item ++ (p.rest ++ x)) start e

ends_at : (walk : Walk) (before : List ℕ) (at : ℕ) (a x : List ℕ) → Remains walk at [] a → length before ≡ at → next_item walk (before ++ (a ++ x)) at start ≡ Complete None (at + length a) (closed_blocks start)
ends_at walk before at a x r e =
    subst (λ (k : ℕ). next_item walk (before ++ (a ++ x)) k start ≡ Complete None (k + length a) (closed_blocks start)) e (end_complete walk before a x start (subst (λ (k : ℕ). Remains walk k [] a) (sym e) r))

same_front : (a b x y : List ℕ) → length a ≡ length b → a ++ x ≡ b ++ y → a ≡ b
same_front a b x y len e = sym (take_at a x (length a) refl) ∙ ap (take (length a)) e ∙ take_at b y (length a) (sym len)

-- the same bytes have one head and lead to one walk: then the items begin at one offset
pub comes_same : (walk : Walk) (at : ℕ) (i j : List ℕ) (is js : List (List ℕ)) (a b x y : List ℕ) (p : Comes walk at i is a) (q : Comes walk at j js b) → a ++ x ≡ b ++ y
    → (p.next ≡ q.next) × (p.head ≡ q.head) × (i ++ (p.rest ++ x) ≡ j ++ (q.rest ++ y))
comes_same walk at i j is js a b x y p q e =
    let before : List ℕ = replicate at 0 in
    let long : length before ≡ at = length-replicate at 0 in
    let both = complete_is (sym (comes_at walk before at i is a x p long) ∙ ap (λ (k : List ℕ). next_item walk (before ++ k) at start) e ∙ comes_at walk before at j js b y q long) in
    let len : length p.head ≡ length q.head = omega (arith, both.1) in
    let first : a ++ x ≡ p.head ++ (i ++ (p.rest ++ x)) = ap (λ (k : List ℕ). k ++ x) p.parts ∙ append_assoc p.head (i ++ p.rest) x ∙ ap (λ (k : List ℕ). p.head ++ k) (append_assoc i p.rest x) in
    let second : b ++ y ≡ q.head ++ (j ++ (q.rest ++ y)) = ap (λ (k : List ℕ). k ++ y) q.parts ∙ append_assoc q.head (j ++ q.rest) y ∙ ap (λ (k : List ℕ). q.head ++ k) (append_assoc j q.rest y) in
    let whole : p.head ++ (i ++ (p.rest ++ x)) ≡ q.head ++ (j ++ (q.rest ++ y)) = sym first ∙ e ∙ second in
    let head : p.head ≡ q.head = same_front p.head q.head (i ++ (p.rest ++ x)) (j ++ (q.rest ++ y)) len whole in
    (some_is both.0, head, append_cancel_left p.head (i ++ (p.rest ++ x)) (j ++ (q.rest ++ y)) (whole ∙ ap (λ (k : List ℕ). k ++ (j ++ (q.rest ++ y))) (sym head)))

-- where an item comes the blocks do not end
pub comes_or_ends : (walk : Walk) (at : ℕ) (i : List ℕ) (is : List (List ℕ)) (a b x y : List ℕ) → Comes walk at i is a → Remains walk at [] b → a ++ x ≡ b ++ y → ⊥
comes_or_ends walk at i is a b x y p r e =
    let before : List ℕ = replicate at 0 in
    let long : length before ≡ at = length-replicate at 0 in
    let both = complete_is (sym (comes_at walk before at i is a x p long) ∙ ap (λ (k : List ℕ). next_item walk (before ++ k) at start) e ∙ ends_at walk before at b y r long) in
    let none : Some p.next ≡ None = both.0 in
    absurd cc

pub ends_same : (walk : Walk) (at : ℕ) (a b x y : List ℕ) → Remains walk at [] a → Remains walk at [] b → a ++ x ≡ b ++ y → a ≡ b
ends_same walk at a b x y r s e =
    let before : List ℕ = replicate at 0 in
    let long : length before ≡ at = length-replicate at 0 in
    let both = complete_is (sym (ends_at walk before at a x r long) ∙ ap (λ (k : List ℕ). next_item walk (before ++ k) at start) e ∙ ends_at walk before at b y s long) in
    same_front a b x y (omega (arith, both.1)) e
