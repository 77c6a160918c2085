-- The maps so far, before those of the statements that are left, are all of them.
use Rattle.std.proofs.Common.{◌≡◌, ◌++◌, drop, map}
use Rattle.spec_machine.specs.Numbering.{entry_of, maps_of, named_in}
use Rattle.program_ir.specs.Statements.{statements_in}
use Rattle.program_compiler.specs.Tables.{AreShared}
use Rattle.program_compiler.proofs.maps.gather_maps.Given as goal

abbrev pub invariant-loop-statement : goal.invariant-loop-statement
invariant-loop-statement l = record {
  shared : AreShared l.writer l.reader l.misses l.row.numbers l.row.maps;
  so_far : l.row.maps ++ map (map (entry_of l.misses)) (named_in maps_of (statements_in l.writer l.reader (drop l.statement-index l.statements))) ≡ map (map (entry_of l.misses)) (named_in maps_of (statements_in l.writer l.reader l.statements));
}
