-- One statement more, and none left.
use Rattle.std.proofs.Common.{◌∙◌, sym, ap}
use Rattle.std.proofs.Math.ListN.{drop_of_length-le}
use Rattle.spec_machine.specs.Numbering.{adding, calls_of, named_in, same_section}
use Rattle.program_ir.specs.Statements.{statements_in}
use Rattle.program_ir.proofs.Numbered.{calls_on}
use Rattle.program_ir.proofs.sections.note_calls.Goals as goal

pub loop-statement-preserved : goal.loop-statement-preserved
loop-statement-preserved c = λ W R. calls_on W R c.args.statements.now c.loop-statement.statement-index c.statement-item.result _ _ _ c.loop-statement-test.true c.statement-item.is (c.in_ok-note_call.ensures W R) (c.loop-statement.invariant W R)

pub returns : goal.returns
returns c = λ W R. ap (λ ls. adding same_section c.loop-statement.sections (named_in calls_of (statements_in W R ls))) (sym (drop_of_length-le c.args.statements.now c.loop-statement-test.false)) ∙ c.loop-statement.invariant W R
