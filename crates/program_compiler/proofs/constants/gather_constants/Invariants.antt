-- The constants so far, with those that the statements left name, are all of them.
use Rattle.std.proofs.Common.{◌≡◌, drop, List}
use Rattle.std.specs.Str.{bytes_eq}
use Rattle.spec_avro.specs.Node.{Node}
use Rattle.spec_machine.specs.Numbering.{adding, constants_in, constants_of, named_in}
use Rattle.program_ir.specs.Statements.{statements_in}
use Rattle.program_compiler.specs.Tables.{AreDefaults}
use Rattle.program_compiler.proofs.constants.gather_constants.Given as goal

abbrev pub invariant-loop-statement : goal.invariant-loop-statement
invariant-loop-statement l = record {
  defaults : AreDefaults l.reader l.defaults l.constants;
  so_far : (W : List Node) → adding bytes_eq l.constants (named_in constants_of (statements_in W l.reader (drop l.statement-index l.statements))) ≡ constants_in (statements_in W l.reader l.statements);
}
