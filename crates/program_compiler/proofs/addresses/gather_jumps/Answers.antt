-- One statement more, one that is too far, and none left.
use Rattle.std.proofs.Common.{◌∙◌, ◌++◌, sym, ap, append-nil}
use Rattle.std.proofs.Math.ListN.{drop_of_length-le}
use Rattle.spec_machine.specs.Numbering.{jumps_from}
use Rattle.program_ir.specs.Statements.{statements_in}
use Rattle.program_compiler.proofs.Jumps.{at_none, jumps_on, jumps_wide}
use Rattle.program_compiler.proofs.Linked.{at_some}
use Rattle.program_compiler.proofs.addresses.gather_jumps.Goals as goal

pub returns : goal.returns
returns c = λ W R. sym (append-nil c.loop-pc.jumps) ∙ ap (λ ls. c.loop-pc.jumps ++ jumps_from c.loop-pc.pc (statements_in W R ls)) (sym (drop_of_length-le c.args.statements.now c.loop-pc-test.false)) ∙ c.loop-pc.invariant W R

pub returns-in-None : goal.returns-in-None
returns-in-None c = λ W R. jumps_wide W R c.args.statements.now c.loop-pc.pc c.index-statements-pc.result c.loop-pc-test.true c.index-statements-pc.is _ _ (at_none _ _ _ c.in-None.is (c.in_ok-more.ensures W R)) (c.loop-pc.invariant W R)

pub loop-pc-preserved : goal.loop-pc-preserved
loop-pc-preserved c = λ W R. jumps_on W R c.args.statements.now c.loop-pc.pc c.index-statements-pc.result c.loop-pc-test.true c.index-statements-pc.is _ _ _ (at_some _ _ _ _ c.in-Some.is (c.in_ok-more.ensures W R)) (c.loop-pc.invariant W R)
