-- The new pair's mark is set.
use Rattle.std.proofs.Common.{rules, ◌<◌, ◌+◌, ◌*◌, arith, ◌∙◌, length}
use Rattle.resolver.proofs.Marks.{count_set, in_table, marked_more}
use Rattle.resolver.proofs.Closed.{all_after}
use Rattle.resolver.proofs.pairs.PairList.add.Goals as goal

pub invariant_of-self-2 : goal.invariant_of-self-2
invariant_of-self-2 c =
    let writer : c.args.pair.0 < c.self.inside.writers = rw (← c.self.view_is) at c.requires.writer in
    let reader : c.args.pair.1 < c.self.inside.readers = rw (← c.self.view_is) at c.requires.reader in
    let room : c.args.pair.0 * c.self.inside.readers + c.args.pair.1 < length c.self.inside.seen.items = rw c.self.invariant.all (in_table _ _ _ _ writer reader) in
    let one = count_set c.self.inside.seen.items _ room (search rules) in
    record {
      all = search rules;
      counted = one ∙ omega (arith, c.self.invariant.counted, c.in_ok-push.ensures.len, c.push.new.self.ok.0, c.self.inside.pairs.ok.0);
      within = rw c.in_ok-push.ensures.items (all_after _ _ _ c.self.invariant.within ((writer, reader), tt));
      marked = marked_more c.self.inside.seen.items c.self.inside.pairs.items _ c.self.inside.readers c.args.pair reader c.in_ok-push.ensures.items c.self.invariant.marked;
    }
