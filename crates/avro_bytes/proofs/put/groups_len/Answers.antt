use Rattle.std.proofs.Common.{arith}
use Rattle.avro_bytes.specs.Laws.Shortests.{counts_from, counts_on, counts_to, length-shortest_groups}
use Rattle.spec_avro.specs.declared.limits.TheConstants.{LONG_BYTES}
use Rattle.avro_bytes.proofs.put.groups_len.Goals as goal

pub loop-rest-init : goal.loop-rest-init
loop-rest-init c = counts_from _ (omega arith)

pub loop-rest-preserved : goal.loop-rest-preserved
loop-rest-preserved c = counts_on _ _ _ c.loop-rest.invariant c.loop-rest-test.true

pub returns-clause-len : goal.returns-clause-len
returns-clause-len c = counts_to _ _ _ c.loop-rest.invariant c.loop-rest-test.false

pub returns-clause-most : goal.returns-clause-most
returns-clause-most c = omega (arith, counts_to _ _ _ c.loop-rest.invariant c.loop-rest-test.false, length-shortest_groups LONG_BYTES c.args.n)

pub overflow_add-len : goal.overflow_add-len
overflow_add-len c = record { fits = omega (arith, c.loop-rest.invariant.counted, length-shortest_groups LONG_BYTES c.args.n) }
