-- The new pair's mark is set.
use Rattle.std.proofs.Common.{rules, ◌≡◌, ◌<◌, ◌+◌, ◌*◌, ◌++◌, ◌∷◌, [], arith, ◌∙◌, ap, sym, subst, true, false, get_or, length}
use Rattle.std.proofs.lemmas.List.{get_or_default}
use Rattle.schema_check.specs.Pairs.{Listed, with_one}
use Rattle.resolver.proofs.Marks.{count_set, in_table, marked_more}
use Rattle.resolver.proofs.Closed.{all_after}
use Rattle.schema_check.proofs.Amid.{one_new, one_there}
use Rattle.schema_check.proofs.Marked.{listed_more, listed_one}
use Rattle.schema_check.proofs.pairs.PairList.add.Goals as goal

pub invariant_of-self-2 : goal.invariant_of-self-2
invariant_of-self-2 c =
    let writer : c.args.pair.0 < c.self.inside.writers = rw (← c.self.view_is) at c.requires.writer in
    let reader : c.args.pair.1 < c.self.inside.readers = rw (← c.self.view_is) at c.requires.reader in
    let room : c.args.pair.0 * c.self.inside.readers + c.args.pair.1 < length c.self.inside.seen.items = rw c.self.invariant.all (in_table _ _ _ _ writer reader) in
    let one = count_set c.self.inside.seen.items _ room (search rules) in
    record {
      all = search rules;
      counted = one ∙ omega (arith, c.self.invariant.counted, c.in_ok-push.ensures.len, c.push.new.self.ok.0, c.self.inside.pairs.ok.0);
      within = rw c.in_ok-push.ensures.items (all_after _ _ _ c.self.invariant.within ((writer, reader), tt));
      listed = rw c.in_ok-push.ensures.items (listed_more c.self.inside.seen.items c.self.inside.pairs.items c.self.inside.readers c.args.pair room c.self.invariant.listed);
      marked = marked_more c.self.inside.seen.items c.self.inside.pairs.items _ c.self.inside.readers c.args.pair reader c.in_ok-push.ensures.items c.self.invariant.marked;
    }

pub returns-then-index-clause-pairs : goal.returns-then-index-clause-pairs
returns-then-index-clause-pairs c =
    let reader : c.args.pair.1 < c.self.inside.readers = rw (← c.self.view_is) at c.requires.reader in
    let writer : c.args.pair.0 < c.self.inside.writers = rw (← c.self.view_is) at c.requires.writer in
    let room : c.args.pair.0 * c.self.inside.readers + c.args.pair.1 < length c.self.inside.seen.items = rw c.self.invariant.all (in_table _ _ _ _ writer reader) in
    let marked : get_or c.self.inside.seen.items (c.args.pair.0 * c.self.inside.readers + c.args.pair.1) false ≡ true = get_or_default c.self.inside.seen.items _ false c.index.result.now room ∙ sym c.index.ensures ∙ c.if-index.true in
    let same : c.self.inside.pairs.items ≡ with_one c.self.inside.pairs.items c.args.pair = sym (one_there c.args.pair c.self.inside.pairs.items (c.self.invariant.marked c.args.pair reader marked)) in
    subst (λ (s : Listed). s.pairs ≡ with_one s.pairs c.args.pair) c.self.view_is same

pub returns-clause-pairs : goal.returns-clause-pairs
returns-clause-pairs c =
    let reader : c.args.pair.1 < c.self.inside.readers = rw (← c.self.view_is) at c.requires.reader in
    let writer : c.args.pair.0 < c.self.inside.writers = rw (← c.self.view_is) at c.requires.writer in
    let room : c.args.pair.0 * c.self.inside.readers + c.args.pair.1 < length c.self.inside.seen.items = rw c.self.invariant.all (in_table _ _ _ _ writer reader) in
    let free : get_or c.self.inside.seen.items (c.args.pair.0 * c.self.inside.readers + c.args.pair.1) false ≡ false = search rules in
    let new : with_one c.self.inside.pairs.items c.args.pair ≡ c.self.inside.pairs.items ++ c.args.pair ∷ [] = one_new c.args.pair c.self.inside.pairs.items (λ a. absurd (let clash : true ≡ false = sym (listed_one c.self.inside.seen.items c.self.inside.pairs.items c.self.inside.readers c.args.pair c.self.invariant.listed a) ∙ free in cc)) in
    c.in_ok-push.ensures.items ∙ sym new ∙ ap (λ (s : Listed). with_one s.pairs c.args.pair) c.self.view_is
