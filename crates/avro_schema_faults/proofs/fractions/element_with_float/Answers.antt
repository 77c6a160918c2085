use Rattle.std.proofs.Common.{arith}
use Rattle.avro_schema_faults.proofs.FloatSteps.{none-all, none-first, none-next, some-here}
use Rattle.avro_schema_faults.proofs.fractions.element_with_float.Goals as goal

pub returns-then-has_float : goal.returns-then-has_float
returns-then-has_float c = some-here c.args.items.now c.loop-i.i c.index-items-i.result (omega arith) c.index-items-i.is c.if-has_float.ensures

pub loop-i-init : goal.loop-i-init
loop-i-init c = none-first c.args.items.now

pub loop-i-preserved : goal.loop-i-preserved
loop-i-preserved c = none-next c.args.items.now c.loop-i.i c.index-items-i.result (omega arith) c.index-items-i.is c.if-has_float.ensures c.loop-i.invariant

pub returns : goal.returns
returns c = none-all c.args.items.now c.loop-i.i (omega arith) c.loop-i.invariant
