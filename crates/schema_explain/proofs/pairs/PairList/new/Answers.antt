-- No mark is set.
use Rattle.std.proofs.Common.{rules, ◌+◌, ◌*◌, sym, ap, ◌∙◌, length}
use Rattle.resolver.specs.Pairs.{marks}
use Rattle.resolver.proofs.Marks.{none_marked}
use Rattle.schema_explain.specs.Pairs.{is_among}
use Rattle.schema_explain.proofs.Marked.{unmarked}
use Rattle.schema_explain.proofs.pairs.PairList.new.Goals as goal

pub invariant_of-result : goal.invariant_of-result
invariant_of-result c =
    let cleared = c.in_ok-seen.ensures.items_if_clones_equal (λ y h. h) in
    let none = ap marks cleared ∙ none_marked (c.args.writers * c.args.readers) in
    record {
      all = search rules;
      counted = none ∙ sym (ap length c.new.ensures.items);
      marked = λ p b. unmarked c.in_ok-seen.seen.items none (p.0 * c.args.readers + p.1) ∙ ap (is_among p) (sym c.new.ensures.items);
    }
