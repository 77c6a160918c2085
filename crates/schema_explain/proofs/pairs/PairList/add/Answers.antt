-- The new pair's mark is set, and there are no more marks than places.
use Rattle.std.proofs.Common.{rules, ◌≡◌, ◌<◌, ◌≤◌, ◌+◌, ◌*◌, ◌∷◌, [], false, get_or, arith, ap, ◌∙◌, length}
use Rattle.std.proofs.lemmas.List.{length-append}
use Rattle.resolver.proofs.Marks.{count_set, in_table, marks_le}
use Rattle.schema_explain.proofs.Marked.{marked_more, marks_lt}
use Rattle.schema_explain.proofs.pairs.PairList.add.Goals as goal

pub invariant_of-self-2 : goal.invariant_of-self-2
invariant_of-self-2 c =
    let writer : c.args.pair.0 < c.self.inside.writers = rw (← c.self.view_is) at c.requires.writer in
    let reader : c.args.pair.1 < c.self.inside.readers = rw (← c.self.view_is) at c.requires.reader in
    let room : c.args.pair.0 * c.self.inside.readers + c.args.pair.1 < length c.self.inside.seen.items = rw c.self.invariant.all (in_table _ _ _ _ writer reader) in
    let one = count_set c.self.inside.seen.items _ room (search rules) in
    record {
      all = search rules;
      counted = one ∙ omega (arith, c.self.invariant.counted, c.in_ok-push.ensures.len, c.push.new.self.ok.0, c.self.inside.pairs.ok.0);
      marked = marked_more c.self.inside.seen.items c.self.inside.pairs.items _ c.self.inside.readers c.args.pair reader room c.in_ok-push.ensures.items c.self.invariant.marked;
    }

pub returns-then-index-clause-few : goal.returns-then-index-clause-few
returns-then-index-clause-few c =
    let h = marks_le c.self.inside.seen.items in
    let few : length c.self.inside.pairs.items ≤ c.self.inside.writers * c.self.inside.readers = omega (arith, h, c.self.invariant.counted, c.self.invariant.all) in
    rw (← c.self.view_is) few

pub returns-clause-few : goal.returns-clause-few
returns-clause-few c =
    let writer : c.args.pair.0 < c.self.inside.writers = rw (← c.self.view_is) at c.requires.writer in
    let reader : c.args.pair.1 < c.self.inside.readers = rw (← c.self.view_is) at c.requires.reader in
    let room : c.args.pair.0 * c.self.inside.readers + c.args.pair.1 < length c.self.inside.seen.items = rw c.self.invariant.all (in_table _ _ _ _ writer reader) in
    let free : get_or c.self.inside.seen.items (c.args.pair.0 * c.self.inside.readers + c.args.pair.1) false ≡ false = search rules in
    let h = marks_lt c.self.inside.seen.items _ room free in
    omega (arith, h, c.self.invariant.counted, c.self.invariant.all, ap length c.in_ok-push.ensures.items, length-append c.self.inside.pairs.items (c.args.pair ∷ []))
