-- Each turn is one of the walk, and after the last all that is reached is there.
use Rattle.std.proofs.Common.{◌≡◌, ◌<◌, ◌-◌, ◌++◌, ◌∷◌, [], List, ℕ, Option, length, replicate, arith, ap, ◌∙◌, subst, sym}
use Rattle.spec_avro.specs.declared.mismatch.MismatchKind.{MismatchKind}
use Rattle.resolver.specs.NextPairs.{next_pairs}
use Rattle.schema_check.specs.BadPairs.{AreWithin, entry}
use Rattle.schema_check.specs.Pairs.{Listed, pair_at, pairs_at, with_all}
use Rattle.schema_check.specs.Ways.{AreParents}
use Rattle.std.proofs.lemmas.List.{length-map}
use Rattle.schema_check.proofs.BadOnes.{bad_on, bad_within, walk_end}
use Rattle.schema_check.proofs.Named.{below_back, pairs_again}
use Rattle.schema_check.proofs.Parented.{parents_first, parents_on}
use Rattle.schema_check.proofs.Walked.{grown_longer, walk_first, walk_on}
use Rattle.schema_check.proofs.checking.check_pair.Goals as goal

pub loop-place-init : goal.loop-place-init
loop-place-init c = record {
  writers = c.in_ok-add.ensures.writers ∙ ap (λ (s : Listed). s.writers) c.in_ok-pairs.ensures ∙ c.len.ensures;
  readers = c.in_ok-add.ensures.readers ∙ ap (λ (s : Listed). s.readers) c.in_ok-pairs.ensures ∙ c.len-2.ensures;
  walk = walk_first _ _ _ _ (ap (λ (s : Listed). s.pairs) c.in_ok-pairs.ensures) c.in_ok-add.ensures.pairs;
  bad = c.new-bad.ensures.items;
  parents = parents_first _ _ _ _ _ (ap (λ (s : Listed). s.pairs) c.in_ok-pairs.ensures) c.in_ok-add.ensures.pairs (c.in_ok-push.ensures.items ∙ ap (λ (xs : List ℕ). xs ++ 0 ∷ []) c.new-parents.ensures.items);
}

pub add_all-requires : goal.add_all-requires
add_all-requires c = rw (c.deref.ensures.value, c.loop-place.invariant.writers, c.loop-place.invariant.readers) c.in_ok-step.ensures.within

pub add_parents-requires : goal.add_parents-requires
add_parents-requires c =
    let exact : c.add_all.new.self.pairs ≡ with_all c.loop-place.pairs.pairs (next_pairs c.args.writer.now c.args.reader.now (c.get-wn.result.0, c.get-wn.result.1)) = rw (c.deref.ensures.value, c.in_ok-step.ensures.next) at c.in_ok-add_all.ensures.pairs in
    let longer = grown_longer c.args.writer.now c.args.reader.now c.get-wn.result c.loop-place.pairs.pairs c.add_all.new.self.pairs exact in
    omega (arith, longer, c.loop-place.invariant.parents.each, c.len-in-loop-place-2.ensures.len)

pub loop-place-preserved : goal.loop-place-preserved
loop-place-preserved c =
    let lt : c.loop-place.place < length c.loop-place.pairs.pairs = omega (arith, c.loop-place-test.true, c.len-in-loop-place.ensures.len) in
    let exact : c.add_all.new.self.pairs ≡ with_all c.loop-place.pairs.pairs (next_pairs c.args.writer.now c.args.reader.now (c.get-wn.result.0, c.get-wn.result.1)) = rw (c.deref.ensures.value, c.in_ok-step.ensures.next) at c.in_ok-add_all.ensures.pairs in
    record {
      writers = c.in_ok-add_all.ensures.writers ∙ c.loop-place.invariant.writers;
      readers = c.in_ok-add_all.ensures.readers ∙ c.loop-place.invariant.readers;
      walk = walk_on _ _ _ c.get-wn.result _ _ c.loop-place.invariant.walk lt c.get-wn.ensures.pair exact;
      bad = c.in_ok-add_bad.ensures ∙ ap (λ (k : Option MismatchKind). c.loop-place.bad.items ++ entry k c.loop-place.place c.get-wn.result) c.in_ok-step.ensures.kind ∙ bad_on _ _ _ c.get-wn.result c.loop-place.pairs.pairs _ c.loop-place.bad.items c.loop-place.invariant.bad lt c.get-wn.ensures.pair exact;
      parents = subst (λ (xs : List ℕ). AreParents c.args.writer.now c.args.reader.now c.add_all.new.self.pairs xs) (ap (λ (n : ℕ). c.loop-place.parents.items ++ replicate (n - length c.loop-place.parents.items) c.loop-place.place) (sym c.len-in-loop-place-2.ensures.len) ∙ sym c.in_ok-add_parents.ensures) (parents_on _ _ c.loop-place.place c.get-wn.result c.loop-place.pairs.pairs c.add_all.new.self.pairs c.loop-place.parents.items c.loop-place.invariant.walk c.loop-place.invariant.parents lt c.get-wn.ensures.pair exact);
    }

pub returns-clause-check : goal.returns-clause-check
returns-clause-check c =
    let again : pairs_at c.in_ok-pairs-2.pairs.items ≡ c.loop-place.pairs.pairs = ap pairs_at c.in_ok-pairs-2.ensures.pairs ∙ pairs_again c.loop-place.pairs.pairs in
    record {
      found = rw again (record {
        bad_pairs = walk_end _ _ _ _ _ c.loop-place.invariant.walk (omega (arith, c.loop-place-test.false, c.len-in-loop-place.ensures.len)) c.loop-place.invariant.bad;
        with_parents = c.loop-place.invariant.parents;
      });
      below = rw (c.loop-place.invariant.writers, c.loop-place.invariant.readers) at c.in_ok-pairs-2.ensures.below;
    }

pub returns-clause-within : goal.returns-clause-within
returns-clause-within c =
    let check = returns-clause-check c in
    subst (λ (n : ℕ). AreWithin (length c.args.writer.now) (length c.args.reader.now) n c.loop-place.bad.items) (length-map c.in_ok-pairs-2.pairs.items pair_at)
    (bad_within _ _ _ _ (pairs_at c.in_ok-pairs-2.pairs.items) c.loop-place.bad.items (below_back _ _ c.in_ok-pairs-2.pairs.items check.below) check.found.bad_pairs.only)
