-- The sections done, where each begins, and their statements.
use Rattle.std.proofs.Common.{◌-◌, length}
use Rattle.spec_machine.specs.declared.limits.TheConstants.{MOST_INSTRS}
use Rattle.program_compiler.specs.Known.{AreKnown}
use Rattle.program_ir.specs.Statements.{statements_in}
use Rattle.program_compiler.proofs.Walked.{Walked}
use Rattle.program_compiler.proofs.schema_pair.SchemaPair.add_sections.Given as goal

abbrev pub invariant-loop-next : goal.invariant-loop-next
invariant-loop-next l = record {
  known : AreKnown l.self.writer.now l.self.reader.now l.known;
  walked : Walked l.self.writer.now l.self.reader.now l.starts.items l.sections (statements_in l.self.writer.now l.self.reader.now l.statements.items);
}

abbrev pub decreases-loop-next : goal.decreases-loop-next
decreases-loop-next l = MOST_INSTRS - length l.starts.items
