-- Where a limit is passed there is no program.
use Rattle.std.proofs.Common.{ap, ◌∙◌}
use Rattle.spec_machine.specs.Numbering.{constants_in}
use Rattle.program_ir.specs.Statements.{statements_in}
use Rattle.program_compiler.specs.Walking.{start_at}
use Rattle.program_compiler.proofs.Assembled.{long_statements, many_statements, not_whole, whole_of}
use Rattle.program_compiler.proofs.Jumps.{at_none}
use Rattle.program_compiler.proofs.Linked.{at_some}
use Rattle.program_compiler.proofs.assembling.parts_of_statements.Goals as goal

pub returns-then-statements-gt-MOST_INSTRS : goal.returns-then-statements-gt-MOST_INSTRS
returns-then-statements-gt-MOST_INSTRS c = λ whole prog. many_statements (start_at c.args.section_statements.now) c.args.writer.now c.args.reader.now _ _ c.statements-statements.ensures c.if-statements-gt-MOST_INSTRS.true prog

pub returns-then-not-are_whole : goal.returns-then-not-are_whole
returns-then-not-are_whole c = λ whole prog. not_whole (start_at c.args.section_statements.now) c.args.writer.now c.args.reader.now _ _ c.statements-statements.ensures _ (c.are_whole.ensures c.args.writer.now c.args.reader.now) c.if-not-are_whole.true whole

pub returns-in_default : goal.returns-in_default
returns-in_default c = λ whole prog. long_statements (start_at c.args.section_statements.now) c.args.writer.now c.args.reader.now _ _ c.statements-statements.ensures (at_none _ _ _ c.in_default.is (c.in_ok-constants.ensures.notes c.args.writer.now)) prog

pub parts_with_constants-requires-clause-constants : goal.parts_with_constants-requires-clause-constants
parts_with_constants-requires-clause-constants c =
    at_some _ _ _ _ c.in-Some.is (c.in_ok-constants.ensures.notes c.args.writer.now) ∙ ap (λ l. constants_in (statements_in c.args.writer.now c.args.reader.now l)) c.statements-statements.ensures

pub parts_with_constants-requires-clause-whole : goal.parts_with_constants-requires-clause-whole
parts_with_constants-requires-clause-whole c = whole_of (start_at c.args.section_statements.now) c.args.writer.now c.args.reader.now _ _ c.statements-statements.ensures _ (c.are_whole.ensures c.args.writer.now c.args.reader.now) c.if-not-are_whole.false
