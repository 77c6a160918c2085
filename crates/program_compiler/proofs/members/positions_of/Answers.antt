-- One member more.
use Rattle.std.proofs.Common.{arith}
use Rattle.std.specs.BTreeMap.{get}
use Rattle.std.specs.Ordering.{nat_cmp}
use Rattle.std.proofs.lemmas.Grind.{common_steps}
use Rattle.program_compiler.proofs.FirstMember.{positions_on}
use Rattle.program_compiler.proofs.members.positions_of.Goals as goal

pub loop-position-preserved : goal.loop-position-preserved
loop-position-preserved c = λ node.
    positions_on node c.args.members.now c.loop-position.position (get nat_cmp c.loop-position.positions node) _ c.loop-position-test.true (c.loop-position.invariant node) (grind (arith, common_steps))
