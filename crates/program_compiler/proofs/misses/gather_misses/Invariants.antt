-- The misses so far, with those that the statements left name, are all of them.
use Rattle.std.proofs.Common.{◌≡◌, drop}
use Rattle.spec_machine.specs.Numbering.{adding, misses_in, misses_of, named_in, same_miss}
use Rattle.program_ir.specs.Statements.{statements_in}
use Rattle.program_compiler.specs.Tables.{AreNoted}
use Rattle.program_compiler.proofs.misses.gather_misses.Given as goal

abbrev pub invariant-loop-statement : goal.invariant-loop-statement
invariant-loop-statement l = record {
  noted : AreNoted l.writer l.reader l.pairs l.misses;
  so_far : adding same_miss l.misses (named_in misses_of (statements_in l.writer l.reader (drop l.statement-index l.statements))) ≡ misses_in (statements_in l.writer l.reader l.statements);
}
