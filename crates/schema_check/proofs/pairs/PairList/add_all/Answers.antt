-- One pair more is added.
use Rattle.std.proofs.Common.{rules, ℕ, suc, ◌+◌, ◌<◌, ◌≡◌, ◌∙◌, List, length, sym, ap, arith, drop, get_or, ◌∷◌}
use Rattle.std.proofs.Math.Seq.{drop-cons}
use Rattle.spec_avro.specs.Safety.{Pair}
use Rattle.schema_check.specs.Pairs.{with_all, with_one}
use Rattle.schema_check.proofs.pairs.PairList.add_all.Goals as goal

pub loop-pair-preserved : goal.loop-pair-preserved
loop-pair-preserved c =
    let h : c.loop-pair.pair-index < length c.args.more.now = search rules in
    let next : suc c.loop-pair.pair-index ≡ c.loop-pair.pair-index + 1 = omega arith in
    let cut : with_all c.loop-pair.self.pairs (drop c.loop-pair.pair-index c.args.more.now) ≡ with_all (with_one c.loop-pair.self.pairs (get_or c.args.more.now c.loop-pair.pair-index (0, 0))) (drop (c.loop-pair.pair-index + 1) c.args.more.now) = ap (with_all c.loop-pair.self.pairs) (drop-cons c.args.more.now c.loop-pair.pair-index (0, 0) h ∙ ap (λ (n : ℕ). get_or c.args.more.now c.loop-pair.pair-index (0, 0) ∷ drop n c.args.more.now) next) in
    record {
      pairs = ap (λ (ps : List Pair). with_all ps (drop (c.loop-pair.pair-index + 1) c.args.more.now)) c.in_ok-add.ensures.pairs ∙ sym cut ∙ c.loop-pair.invariant.pairs;
      writers = c.in_ok-add.ensures.writers ∙ c.loop-pair.invariant.writers;
      readers = c.in_ok-add.ensures.readers ∙ c.loop-pair.invariant.readers;
    }
