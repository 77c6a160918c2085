-- The code so far, before that of the statements that are left, is all of it.
use Rattle.std.proofs.Common.{◌≡◌, ◌≤◌, ◌++◌, drop, List}
use Rattle.spec_avro.specs.Node.{Node}
use Rattle.spec_machine.specs.Numbering.{code_from}
use Rattle.program_ir.specs.Statements.{statements_in}
use Rattle.program_compiler.specs.Walking.{start_at}
use Rattle.program_compiler.proofs.linking.link.Given as goal

abbrev pub invariant-loop-pc : goal.invariant-loop-pc
invariant-loop-pc l = record {
  code : (W : List Node) → l.code.items ++ code_from (start_at l.tables.section_statements.now) l.tables.constants.now l.tables.misses.now l.pc l.counts.maps l.counts.jumps (statements_in W l.reader (drop l.pc l.statements)) ≡ code_from (start_at l.tables.section_statements.now) l.tables.constants.now l.tables.misses.now 0 0 0 (statements_in W l.reader l.statements);
  maps : l.counts.maps ≤ l.pc;
  jumps : l.counts.jumps ≤ l.pc;
}
