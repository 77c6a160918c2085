use Rattle.std.proofs.Common.{[], sym, ◌∙◌, arith}
use Rattle.std.proofs.lemmas.List.{append-nil}
use Rattle.avro_bytes.specs.Laws.Shortests.{starts, goes_on, ends, extends_more}
use Rattle.avro_bytes.proofs.put.put_groups.Goals as goal

pub loop-rest-init : goal.loop-rest-init
loop-rest-init c = record { groups = starts _ _ (omega arith); extends = ([], sym (append-nil _)) }

pub loop-rest-preserved : goal.loop-rest-preserved
loop-rest-preserved c =
    let e = c.loop-rest.invariant.extends in
    record {
      groups = rw c.in_ok-push.ensures.items (goes_on _ _ _ _ c.loop-rest.invariant.groups c.loop-rest-test.true);
      extends = extends_more _ _ _ _ e c.in_ok-push.ensures.items;
    }

pub returns-clause-ok : goal.returns-clause-ok
returns-clause-ok c = c.in_ok-push-2.ensures.items ∙ ends _ _ _ _ c.loop-rest.invariant.groups c.loop-rest-test.false
