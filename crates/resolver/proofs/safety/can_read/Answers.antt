-- A bad pair that is reached is the answer, and a list that all that it leads to is in has all that is reached.
use Rattle.std.proofs.Common.{rules, ◌≡◌, true, false, ◌<◌, length, arith, ap, ◌∙◌}
use Rattle.resolver.specs.Pairs.{Listed, AddsAll}
use Rattle.resolver.specs.NextPairs.{is_bad, next_pairs}
use Rattle.spec_avro.specs.Safety.{Reached}
use Rattle.resolver.proofs.Leading.{told_bad}
use Rattle.resolver.proofs.Closed.{all_at, kept_on, kept_end, kept_first, told_good, told_none}
use Rattle.resolver.proofs.safety.can_read.Goals as goal

pub loop-place-init : goal.loop-place-init
loop-place-init c = record {
  writers = c.in_ok-add.ensures.writers ∙ ap (λ (s : Listed). s.writers) c.in_ok-pairs.ensures ∙ c.len.ensures;
  readers = c.in_ok-add.ensures.readers ∙ ap (λ (s : Listed). s.readers) c.in_ok-pairs.ensures ∙ c.len-2.ensures;
  kept = kept_first _ _ _ _ (ap (λ (s : Listed). s.pairs) c.in_ok-pairs.ensures) c.in_ok-add.ensures;
}

pub add_all-requires : goal.add_all-requires
add_all-requires c = rw (c.deref.ensures.value, c.loop-place.invariant.writers, c.loop-place.invariant.readers) (rw c.in-Some.is at c.in_ok-next.ensures.within)

pub loop-place-preserved : goal.loop-place-preserved
loop-place-preserved c =
    let p = c.get-wn.result in
    let W = c.args.writer.now in
    let R = c.args.reader.now in
    let lt : c.loop-place.place < length c.loop-place.pairs.pairs = omega (arith, c.loop-place-test.true, c.len-in-loop-place.ensures.len) in
    let good = told_good (is_bad W R p) (next_pairs W R p) c.in-Some.next.items (rw c.in-Some.is at c.in_ok-next.ensures.pairs) in
    let added : AddsAll (next_pairs W R p) c.loop-place.pairs c.add_all.new.pairs = rw (← good.1) (rw c.deref.ensures.value at c.in_ok-add_all.ensures) in
    record {
      writers = c.in_ok-add_all.ensures.writers ∙ c.loop-place.invariant.writers;
      readers = c.in_ok-add_all.ensures.readers ∙ c.loop-place.invariant.readers;
      kept = kept_on _ _ _ p _ _ c.loop-place.invariant.kept lt c.get-wn.ensures.pair good.0 added;
    }

pub returns : goal.returns
returns c = (λ _. kept_end _ _ _ _ c.loop-place.invariant.kept (omega (arith, c.loop-place-test.false, c.len-in-loop-place.ensures.len)), λ _. search rules)

pub returns-in_default : goal.returns-in_default
returns-in_default c =
    let p = c.get-wn.result in
    let W = c.args.writer.now in
    let R = c.args.reader.now in
    let reached = all_at (Reached W R) c.loop-place.pairs.pairs c.loop-place.place p c.loop-place.invariant.kept.reached (omega (arith, c.loop-place-test.true, c.len-in-loop-place.ensures.len)) c.get-wn.ensures.pair in
    let bad = told_none (is_bad W R p) (next_pairs W R p) (rw c.in_default.is at c.in_ok-next.ensures.pairs) in
    (λ h. absurd (let no : false ≡ true = h in cc), λ safe. absurd (safe p reached (told_bad _ _ p bad)))
