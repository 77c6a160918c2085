-- One statement more, one whose constant is too long, and none left.
use Rattle.std.proofs.Common.{◌∙◌, sym, ap}
use Rattle.std.specs.Str.{bytes_eq}
use Rattle.std.proofs.Math.ListN.{drop_of_length-le}
use Rattle.spec_machine.specs.Numbering.{adding, constants_of, named_in}
use Rattle.program_ir.specs.Statements.{statements_in}
use Rattle.program_compiler.proofs.Jumps.{at_none}
use Rattle.program_compiler.proofs.Linked.{at_some, long_statement}
use Rattle.program_compiler.proofs.Tables.{listed_on}
use Rattle.program_compiler.proofs.constants.gather_constants.Goals as goal

pub returns-clause-notes : goal.returns-clause-notes
returns-clause-notes c = λ W. ap (λ ls. adding bytes_eq c.loop-statement.constants (named_in constants_of (statements_in W c.args.reader.now ls))) (sym (drop_of_length-le c.args.statements.now c.loop-statement-test.false)) ∙ c.loop-statement.invariant.so_far W

pub returns-in-None-clause-notes : goal.returns-in-None-clause-notes
returns-in-None-clause-notes c = λ W. long_statement W c.args.reader.now c.args.statements.now c.loop-statement.statement-index c.statement-item.result c.loop-statement-test.true c.statement-item.is (at_none _ _ _ c.in-None.is (c.in_ok-more.ensures.notes W))

pub loop-statement-preserved : goal.loop-statement-preserved
loop-statement-preserved c = record {
  defaults = at_some _ _ _ _ c.in-Some.is c.in_ok-more.ensures.defaults;
  so_far = λ W. listed_on bytes_eq constants_of W c.args.reader.now c.args.statements.now c.loop-statement.statement-index c.statement-item.result _ _ _ c.loop-statement-test.true c.statement-item.is (at_some _ _ _ _ c.in-Some.is (c.in_ok-more.ensures.notes W)) (c.loop-statement.invariant.so_far W);
}
