-- Where a walk over blocks ends, their end is spelled; and a walk begins before all of the items.
use Rattle.std.proofs.Common.{◌≡◌, ℕ, zero, suc, List, [], ◌∷◌, ◌++◌, length, None, ℤ, pos, negsuc, refl, sym, subst, ◌∙◌, arith, lit<}
use Rattle.spec_avro.specs.declared.meter.Meter.{Meter}
use Rattle.spec_decoding.specs.BlockDecoding.{after_count, is_met, item_at, next_block, next_item, sized_block}
use Rattle.spec_avro.specs.Blocks.{IsBlocks, IsItems, joined}
use Rattle.spec_decoding.specs.Decoding.{Complete}
use Rattle.avro_bytes.specs.Decoding.{Stands}
use Rattle.spec_avro.specs.Number.{IsNumber, long_limit}
use Rattle.spec_decoding.specs.NumberDecoding.{number_at}
use Rattle.spec_decoding.specs.Walk.{Walk, first_walk}
use Rattle.avro_bytes.specs.Walking.{Remains}
use Rattle.avro_bytes.specs.Laws.Binds.{complete_is, then_complete}
use Rattle.avro_bytes.specs.Laws.BlockSteps.{as_stands, none_left, size_is}
use Rattle.avro_bytes.specs.Laws.Numbers.{number_sound}
use Rattle.avro_bytes.specs.Laws.Walks.{item_takes, size_met}

no_end : (walk : Walk) (place : ℕ) (m : Meter) (to : ℕ) (after : Meter) → item_at walk place m ≡ Complete None to after → ⊥
no_end walk place m to after e = let i = item_takes walk place m None to after e in let none = i.1 in absurd cc

sized_ends : (all : List ℕ) (count_at left at : ℕ) (m : Meter) (to : ℕ) (after : Meter) → sized_block all count_at left at m ≡ Complete None to after → ⊥
unfolding sized_block
sized_ends all count_at left at m to after e =
    let t = then_complete (number_at long_limit all at m) _ None to after e in
    no_end _ t.mid t.meter to after t.next_is

count_ends : (all : List ℕ) (at : ℕ) (n : ℤ) (mid : ℕ) (m : Meter) (to : ℕ) (after : Meter) → Stands (IsNumber long_limit n) all at mid → after_count all at n mid m ≡ Complete None to after → Stands (IsItems []) all at to
count_ends all at (pos zero) mid m to after s e =
    let f = complete_is e in
    let stands : Stands (IsItems []) all at mid = record { bytes = s.bytes; rest = s.rest; parts = s.parts; end = s.end; spelled = record { blocks = []; all = refl; spelled = s.spelled } } in
    subst (Stands (IsItems []) all at) f.1 stands
count_ends all at (pos (suc n)) mid m to after s e = absurd (no_end _ mid m to after e)
count_ends all at (negsuc n) mid m to after s e = absurd (sized_ends all at n mid m to after e)

block_ends : (all : List ℕ) (at : ℕ) (m : Meter) (to : ℕ) (after : Meter) → next_block all at m ≡ Complete None to after → Stands (IsItems []) all at to
unfolding next_block
block_ends all at m to after e =
    let t = then_complete (number_at long_limit all at m) (after_count all at) None to after e in
    count_ends all at t.first t.mid t.meter to after (number_sound long_limit all at m t.first t.mid t.meter (lit< tt) t.first_is).0 t.next_is

left_end : (left : ℕ) (walk : Walk) (all : List ℕ) (at : ℕ) (m : Meter) (to : ℕ) (after : Meter) → next_item (record walk { left = left }) all at m ≡ Complete None to after → Stands (Remains (record walk { left = left }) at []) all at to
unfolding next_item
left_end zero walk all at m to after e =
    let s = size_met (is_met walk at) all walk.count_at at m None to after e in
    as_stands (IsItems []) (Remains (record walk { left = 0 }) at []) all at to (λ bytes i. none_left walk at [] bytes (size_is walk at s.0) i) (block_ends all at m to after s.1)
left_end (suc left) walk all at m to after e = absurd (no_end (record walk { left = left }) at m to after e)

-- where no item is returned, none remains
pub end_sound : (walk : Walk) (all : List ℕ) (at : ℕ) (m : Meter) (to : ℕ) (after : Meter) → next_item walk all at m ≡ Complete None to after → Stands (Remains walk at []) all at to
end_sound walk all at m to after e = left_end walk.left walk all at m to after e

-- ---- the first walk

pub remains_first : (start at : ℕ) (items : List (List ℕ)) (bytes : List ℕ) → IsItems items bytes → Remains (first_walk start) at items bytes
remains_first start at items bytes s = none_left (first_walk start) at items bytes tt s

first_of : (now later items : List (List ℕ)) (bytes rest : List ℕ) → length now ≡ 0 → items ≡ now ++ later → bytes ≡ joined now ++ rest → IsItems later rest → IsItems items bytes
first_of [] later items bytes rest many all parts s = record { blocks = s.blocks; all = s.all ∙ sym all; spelled = subst (λ (b : List ℕ). IsBlocks s.blocks b) (sym parts) s.spelled }
first_of (x ∷ now) later items bytes rest many all parts s = absurd (omega (arith, many))

pub first_remains : (start at : ℕ) (items : List (List ℕ)) (bytes : List ℕ) → Remains (first_walk start) at items bytes → IsItems items bytes
first_remains start at items bytes r = first_of r.now r.later items bytes r.rest r.many r.all r.parts r.blocks
