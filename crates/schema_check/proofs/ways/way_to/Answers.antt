-- A pair more, back to its parent.
use Rattle.std.proofs.Common.{◌≡◌, ◌<◌, ◌++◌, ◌∷◌, [], length, get_or, reverse, arith, ap, ◌∙◌}
use Rattle.std.proofs.lemmas.List.{get_or_default, length-map, map-append}
use Rattle.schema_check.specs.Pairs.{pair_at, pairs_at}
use Rattle.schema_check.proofs.Named.{below_more, below_one, below_reversed, pair_of_place, pairs_reversed}
use Rattle.schema_check.proofs.Onward.{back_on, back_whole, goes_first, way_by}
use Rattle.schema_check.proofs.ways.way_to.Goals as goal

pub loop-at-init : goal.loop-at-init
loop-at-init c =
    let many : length (pairs_at c.args.check.now.pairs.items) ≡ length c.args.check.now.pairs.items = length-map c.args.check.now.pairs.items pair_at in
    record {
      there = c.requires.there;
      parent = omega (arith, many, c.requires.there, c.requires.check.found.with_parents.each);
      on = goes_first (pairs_at c.args.check.now.pairs.items) c.args.check.now.parents.items c.args.place _ (ap pairs_at c.new-back.ensures.items);
      below = rw c.new-back.ensures.items tt;
    }

pub loop-at-preserved : goal.loop-at-preserved
loop-at-preserved c =
    let pos : 0 < c.loop-at.at = omega (arith, c.loop-at-test.true) in
    let many : length (pairs_at c.args.check.now.pairs.items) ≡ length c.args.check.now.pairs.items = length-map c.args.check.now.pairs.items pair_at in
    let parent : c.index-at.result.now ≡ get_or c.args.check.now.parents.items c.loop-at.at 0 = c.index-at.ensures ∙ get_or_default c.args.check.now.parents.items c.loop-at.at c.index-at.result.now 0 c.loop-at.invariant.parent in
    let pair = pair_of_place c.args.check.now.pairs.items c.loop-at.at c.index.result.now c.loop-at.invariant.there c.index.ensures in
    let longer : pairs_at c.push.new.self.items ≡ pairs_at c.loop-at.back.items ++ pair_at c.index.result.now ∷ [] = ap pairs_at c.in_ok-push.ensures.items ∙ map-append pair_at c.loop-at.back.items (c.index.result.now ∷ []) in
    let few : c.loop-at.at < length (pairs_at c.args.check.now.pairs.items) = omega (arith, many, c.loop-at.invariant.there) in
    let its = c.requires.check.found.with_parents.lead c.loop-at.at pos few in
    record {
      there = omega (arith, parent, its.earlier, c.loop-at.invariant.there);
      parent = omega (arith, parent, its.earlier, c.loop-at.invariant.parent);
      on = back_on (pairs_at c.args.check.now.pairs.items) c.args.check.now.parents.items c.loop-at.at c.index-at.result.now c.args.place _ (pairs_at c.loop-at.back.items) (pairs_at c.push.new.self.items) pos c.loop-at.invariant.on pair parent longer;
      below = rw c.in_ok-push.ensures.items (below_more _ _ c.loop-at.back.items (c.index.result.now ∷ []) c.loop-at.invariant.below (below_one _ _ c.args.check.now.pairs.items c.loop-at.at c.index.result.now c.requires.check.below c.loop-at.invariant.there c.index.ensures, tt));
    }

pub returns-clause-by_parents : goal.returns-clause-by_parents
returns-clause-by_parents c =
    let last : c.loop-at.at ≡ 0 = omega (arith, c.loop-at-test.false) in
    let first : 0 < length c.args.check.now.pairs.items = omega (arith, c.requires.there) in
    let pair = pair_of_place c.args.check.now.pairs.items 0 c.index-2.result.now first c.index-2.ensures in
    let longer : pairs_at c.push-2.new.self.items ≡ pairs_at c.loop-at.back.items ++ pair_at c.index-2.result.now ∷ [] = ap pairs_at c.in_ok-push-2.ensures.items ∙ map-append pair_at c.loop-at.back.items (c.index-2.result.now ∷ []) in
    let whole = back_whole (pairs_at c.args.check.now.pairs.items) c.args.check.now.parents.items c.args.place _ (pairs_at c.loop-at.back.items) (pairs_at c.push-2.new.self.items) (rw last at c.loop-at.invariant.on) pair longer in
    rw (ap pairs_at (c.in_ok-way.ensures ∙ ap reverse c.deref.ensures.value) ∙ pairs_reversed c.push-2.new.self.items) whole

pub returns-clause-way : goal.returns-clause-way
returns-clause-way c =
    let few : c.args.place < length (pairs_at c.args.check.now.pairs.items) = omega (arith, length-map c.args.check.now.pairs.items pair_at, c.requires.there) in
    way_by _ _ (pairs_at c.args.check.now.pairs.items) c.args.check.now.parents.items c.requires.check.found.with_parents c.args.place (pairs_at c.in_ok-way.way.items) (returns-clause-by_parents c) few

pub returns-clause-below : goal.returns-clause-below
returns-clause-below c =
    let first : 0 < length c.args.check.now.pairs.items = omega (arith, c.requires.there) in
    rw (c.in_ok-way.ensures ∙ ap reverse (c.deref.ensures.value ∙ c.in_ok-push-2.ensures.items)) (below_reversed _ _ (c.loop-at.back.items ++ c.index-2.result.now ∷ []) (below_more _ _ c.loop-at.back.items (c.index-2.result.now ∷ []) c.loop-at.invariant.below (below_one _ _ c.args.check.now.pairs.items 0 c.index-2.result.now c.requires.check.below first c.index-2.ensures, tt)))
