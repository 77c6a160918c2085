-- One statement more, one that is lost, and none left.
use Rattle.std.proofs.Common.{◌∙◌, sym, ap}
use Rattle.std.proofs.Math.ListN.{drop_of_length-le}
use Rattle.spec_machine.specs.Code.{are_whole}
use Rattle.program_ir.specs.Statements.{statements_in}
use Rattle.program_compiler.proofs.Assembled.{statement_is_lost, statement_is_whole}
use Rattle.program_compiler.proofs.assembling.are_whole.Goals as goal

pub returns : goal.returns
returns c = λ W R. ap (λ ls. are_whole (statements_in W R ls)) (sym (drop_of_length-le c.args.statements.now c.loop-statement-test.false)) ∙ c.loop-statement.invariant W R

pub returns-then-is_lost : goal.returns-then-is_lost
returns-then-is_lost c = λ W R. statement_is_lost W R c.args.statements.now c.loop-statement.statement-index c.statement-item.result _ c.loop-statement-test.true c.statement-item.is (c.is_lost.ensures W R) c.if-is_lost.true (c.loop-statement.invariant W R)

pub loop-statement-preserved : goal.loop-statement-preserved
loop-statement-preserved c = λ W R. statement_is_whole W R c.args.statements.now c.loop-statement.statement-index c.statement-item.result _ c.loop-statement-test.true c.statement-item.is (c.is_lost.ensures W R) c.if-is_lost.false (c.loop-statement.invariant W R)
