-- One statement more, and none left.
use Rattle.std.proofs.Common.{◌∙◌, sym, ap}
use Rattle.std.proofs.Math.ListN.{drop_of_length-le}
use Rattle.spec_machine.specs.Numbering.{adding, misses_of, named_in, same_miss}
use Rattle.program_ir.specs.Statements.{statements_in}
use Rattle.program_compiler.proofs.Tables.{listed_on}
use Rattle.program_compiler.proofs.misses.gather_misses.Goals as goal

pub loop-statement-preserved : goal.loop-statement-preserved
loop-statement-preserved c = record {
  noted = c.in_ok-note.ensures.noted;
  so_far = listed_on same_miss misses_of c.args.writer.now c.args.reader.now c.args.statements.now c.loop-statement.statement-index c.statement-item.result _ _ _ c.loop-statement-test.true c.statement-item.is c.in_ok-note.ensures.added c.loop-statement.invariant.so_far;
}

pub returns : goal.returns
returns c = ap (λ ls. adding same_miss c.loop-statement.misses (named_in misses_of (statements_in c.args.writer.now c.args.reader.now ls))) (sym (drop_of_length-le c.args.statements.now c.loop-statement-test.false)) ∙ c.loop-statement.invariant.so_far
