-- One step of a walk over blocks: where it leads, and its meter, which has one unit more at an item and one level less
-- after the blocks.
use Rattle.std.proofs.Common.{◌≡◌, ℕ, zero, suc, ◌+◌, ◌<◌, List, Option, Some, None, Result, Ok, Err, Bool, true, false, cond, ℤ, pos, negsuc, refl, sym, ap, subst, ◌∙◌, arith, lit<}
use Rattle.spec_decoding.specs.declared.fault.Fault.{Fault}
use Rattle.spec_avro.specs.declared.malformed.MalformedKind.TheVariants.{BadBlock}
use Rattle.spec_avro.specs.declared.limits.TheConstants.{MOST_UNITS}
use Rattle.spec_avro.specs.declared.meter.Meter.{Meter}
use Rattle.spec_decoding.specs.BlockDecoding.{after_count, is_met, item_at, next_block, next_item, sized_block}
use Rattle.spec_decoding.specs.Decoding.{Complete, Failed, inside}
use Rattle.spec_avro.specs.Defect.{Malformed}
use Rattle.spec_avro.specs.Meter.{OpensItem}
use Rattle.spec_decoding.specs.Opening.{closed_blocks, opened_item}
use Rattle.spec_avro.specs.Number.{long_limit}
use Rattle.spec_decoding.specs.NumberDecoding.{number_at}
use Rattle.spec_decoding.specs.Walk.{Walk}
use Rattle.avro_bytes.specs.Laws.Binds.{complete_is, then_complete}
use Rattle.avro_bytes.specs.Laws.Meters.{item_was_opened}
use Rattle.avro_bytes.specs.Laws.Numbers.{number_sound, number_some}

pub some_is : {A : Type 0} {x y : A} → Some x ≡ Some y → x ≡ y
some_is e = cc

inside_item : (r : Result Meter Fault) (walk : Walk) (place : ℕ) (step : Option Walk) (to : ℕ) (after : Meter)
    → inside r (λ within. Complete (Some walk) place within) ≡ Complete step to after → (r ≡ Ok after) × (Some walk ≡ step) × (place ≡ to)
inside_item (Ok within) walk place step to after e = let w = complete_is e in (ap Ok w.2, w.0, w.1)
inside_item (Err error) walk place step to after e = absurd cc

-- at an item
pub item_takes : (walk : Walk) (place : ℕ) (m : Meter) (step : Option Walk) (to : ℕ) (after : Meter)
    → item_at walk place m ≡ Complete step to after → OpensItem m after × (Some walk ≡ step) × (place ≡ to)
item_takes walk place m step to after e =
    let i = inside_item (opened_item place m) walk place step to after e in
    (item_was_opened place m after i.0, i.1, i.2)

-- a size that is checked is met
pub size_met : (met : Bool) (bytes : List ℕ) (count_at at : ℕ) (m : Meter) (step : Option Walk) (to : ℕ) (after : Meter)
    → cond met (next_block bytes at m) (Failed (Malformed BadBlock count_at)) ≡ Complete step to after
    → (met ≡ true) × (next_block bytes at m ≡ Complete step to after)
size_met true bytes count_at at m step to after e = (refl, e)
size_met false bytes count_at at m step to after e = absurd cc

-- what a step leaves, where a count was read at an offset: the head of a block begins there, and its items after it
pub record FromHead (at : ℕ) (m : Meter) (next : Walk) (to : ℕ) (after : Meter) : Type 0 where
  pub count_at : next.count_at ≡ at
  pub items_at : next.items_at ≡ to
  pub further : at < to
  pub opens : OpensItem m after

abbrev pub AfterCount : ℕ → Meter → Option Walk → ℕ → Meter → Type 0
AfterCount at m (Some next) to after = FromHead at m next to after
AfterCount at m None to after = (after ≡ closed_blocks m) × (at < to)

from_item : (walk : Walk) (at place : ℕ) (m : Meter) (step : Option Walk) (to : ℕ) (after : Meter)
    → walk.count_at ≡ at → walk.items_at ≡ place → at < place → item_at walk place m ≡ Complete step to after → AfterCount at m step to after
from_item walk at place m step to after count items further e =
    let i = item_takes walk place m step to after e in
    subst (λ (s : Option Walk). AfterCount at m s to after) i.1
    (record { count_at = count; items_at = items ∙ i.2; further = omega (arith, i.2); opens = i.0 })

sized_from : (bytes : List ℕ) (count_at left at : ℕ) (m : Meter) (step : Option Walk) (to : ℕ) (after : Meter)
    → count_at < at → sized_block bytes count_at left at m ≡ Complete step to after → AfterCount count_at m step to after
unfolding sized_block
sized_from bytes count_at left at m step to after lt e =
    let t = then_complete (number_at long_limit bytes at m) (λ size items after. item_at (record { left = left; count_at = count_at; items_at = items; size = Some size }) items after) step to after e in
    let n = number_sound long_limit bytes at m t.first t.mid t.meter (lit< tt) t.first_is in
    subst (λ (x : Meter). AfterCount count_at x step to after) (sym n.1) (from_item _ count_at t.mid t.meter step to after refl refl (omega (arith, n.0.end)) t.next_is)

count_from : (bytes : List ℕ) (at : ℕ) (count : ℤ) (place : ℕ) (m : Meter) (step : Option Walk) (to : ℕ) (after : Meter)
    → at < place → after_count bytes at count place m ≡ Complete step to after → AfterCount at m step to after
count_from bytes at (pos zero) place m step to after lt e =
    let f = complete_is e in
    subst (λ (s : Option Walk). AfterCount at m s to after) f.0 (sym f.2, omega (arith, f.1))
count_from bytes at (pos (suc n)) place m step to after lt e = from_item _ at place m step to after refl refl lt e
count_from bytes at (negsuc n) place m step to after lt e = sized_from bytes at n place m step to after lt e

pub block_from : (bytes : List ℕ) (at : ℕ) (m : Meter) (step : Option Walk) (to : ℕ) (after : Meter)
    → next_block bytes at m ≡ Complete step to after → AfterCount at m step to after
unfolding next_block
block_from bytes at m step to after e =
    let t = then_complete (number_at long_limit bytes at m) (after_count bytes at) step to after e in
    let n = number_sound long_limit bytes at m t.first t.mid t.meter (lit< tt) t.first_is in
    let further : at < t.mid = omega (arith, n.0.end, number_some long_limit t.first n.0.bytes n.0.spelled) in
    subst (λ (x : Meter). AfterCount at x step to after) (sym n.1) (count_from bytes at t.first t.mid t.meter step to after further t.next_is)

-- what a step leaves within a block
pub record FromItem (left : ℕ) (walk : Walk) (at : ℕ) (m : Meter) (step : Option Walk) (to : ℕ) (after : Meter) : Type 0 where
  pub next_is : step ≡ Some (record walk { left = left })
  pub same_place : to ≡ at
  pub opens : OpensItem m after

abbrev pub AfterStep : ℕ → Walk → ℕ → Meter → Option Walk → ℕ → Meter → Type 0
AfterStep zero walk at m step to after = AfterCount at m step to after
AfterStep (suc left) walk at m step to after = FromItem left walk at m step to after

step_from : (left : ℕ) (walk : Walk) (bytes : List ℕ) (at : ℕ) (m : Meter) (step : Option Walk) (to : ℕ) (after : Meter)
    → next_item (record walk { left = left }) bytes at m ≡ Complete step to after → AfterStep left walk at m step to after
unfolding next_item
step_from zero walk bytes at m step to after e = block_from bytes at m step to after (size_met (is_met walk at) bytes walk.count_at at m step to after e).1
step_from (suc left) walk bytes at m step to after e =
    let i = item_takes (record walk { left = left }) at m step to after e in
    record { next_is = sym i.1; same_place = sym i.2; opens = i.0 }

-- a step from a walk
pub walk_steps : (walk : Walk) (bytes : List ℕ) (at : ℕ) (m : Meter) (step : Option Walk) (to : ℕ) (after : Meter)
    → next_item walk bytes at m ≡ Complete step to after → AfterStep walk.left walk at m step to after
walk_steps walk bytes at m step to after e = step_from walk.left walk bytes at m step to after e

-- ---- the parts of a step, each on its own

item_of : (left : ℕ) (walk next : Walk) (at to : ℕ) (m after : Meter) → AfterStep left walk at m (Some next) to after → OpensItem m after
item_of zero walk next at to m after s = s.opens
item_of (suc left) walk next at to m after s = s.opens

pub item_meter : (walk next : Walk) (bytes : List ℕ) (at to : ℕ) (m after : Meter)
    → next_item walk bytes at m ≡ Complete (Some next) to after → (after.depth ≡ m.depth) × (after.units ≡ m.units + 1) × (m.units < MOST_UNITS)
item_meter walk next bytes at to m after e =
    let o = item_of walk.left walk next at to m after (walk_steps walk bytes at m (Some next) to after e) in
    (o.same_depth, o.counted, o.few)

end_of : (left : ℕ) (walk : Walk) (at to : ℕ) (m after : Meter) → AfterStep left walk at m None to after → (left ≡ 0) × (after ≡ closed_blocks m) × (at < to)
end_of zero walk at to m after s = (refl, s.0, s.1)
end_of (suc left) walk at to m after s = absurd (let none = s.next_is in cc)

pub end_takes : (walk : Walk) (bytes : List ℕ) (at to : ℕ) (m after : Meter)
    → next_item walk bytes at m ≡ Complete None to after → (walk.left ≡ 0) × (at < to)
end_takes walk bytes at to m after e = let c = end_of walk.left walk at to m after (walk_steps walk bytes at m None to after e) in (c.0, c.2)

pub end_meter : (walk : Walk) (bytes : List ℕ) (at to : ℕ) (m after : Meter)
    → 0 < m.depth → next_item walk bytes at m ≡ Complete None to after → (after.depth + 1 ≡ m.depth) × (after.units ≡ m.units)
end_meter walk bytes at to m after deep e =
    let c = end_of walk.left walk at to m after (walk_steps walk bytes at m None to after e) in
    (omega (arith, ap (λ (x : Meter). x.depth) c.1), ap (λ (x : Meter). x.units) c.1)

head_of : (left : ℕ) (walk next : Walk) (at to : ℕ) (m after : Meter) → left ≡ 0 → AfterStep left walk at m (Some next) to after
    → (next.count_at ≡ at) × (next.items_at ≡ to) × (at < to)
head_of zero walk next at to m after none s = (s.count_at, s.items_at, s.further)
head_of (suc left) walk next at to m after none s = absurd cc

-- at the first item of a block
pub head_places : (walk next : Walk) (bytes : List ℕ) (at to : ℕ) (m after : Meter)
    → next_item walk bytes at m ≡ Complete (Some next) to after → walk.left ≡ 0 → (next.count_at ≡ at) × (next.items_at ≡ to) × (at < to)
head_places walk next bytes at to m after e none = head_of walk.left walk next at to m after none (walk_steps walk bytes at m (Some next) to after e)

kept_of : (left : ℕ) (walk next : Walk) (at to : ℕ) (m after : Meter) → 0 < left → AfterStep left walk at m (Some next) to after
    → (record walk { left = left } ≡ record next { left = suc next.left }) × (to ≡ at)
kept_of zero walk next at to m after some s = absurd (omega arith)
kept_of (suc left) walk next at to m after some s = (sym (ap (λ (w : Walk). record w { left = suc w.left }) (some_is s.next_is)), s.same_place)

-- within a block only the number of items that are left changes
pub inside_keeps : (walk next : Walk) (bytes : List ℕ) (at to : ℕ) (m after : Meter)
    → next_item walk bytes at m ≡ Complete (Some next) to after → 0 < walk.left → (walk ≡ record next { left = suc next.left }) × (to ≡ at)
inside_keeps walk next bytes at to m after e some = kept_of walk.left walk next at to m after some (walk_steps walk bytes at m (Some next) to after e)
