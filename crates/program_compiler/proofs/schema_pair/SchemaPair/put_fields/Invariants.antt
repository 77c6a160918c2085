-- The statements so far, before those of the fields that are left, are all of them.
use Rattle.std.proofs.Common.{◌≡◌, ◌++◌, drop, length}
use Rattle.resolver.specs.Partners.{AreRoutes}
use Rattle.spec_avro.specs.declared.limits.TheConstants.{MOST_FIELDS}
use Rattle.spec_machine.specs.Writing.{fields_code}
use Rattle.program_compiler.specs.Known.{AreKnown}
use Rattle.program_ir.specs.Statements.{statements_in}
use Rattle.program_compiler.proofs.schema_pair.SchemaPair.put_fields.Given as goal

abbrev pub invariant-loop-field : goal.invariant-loop-field
invariant-loop-field l = record {
  so_far : statements_in l.self.writer.now l.self.reader.now l.statements.items ++ fields_code l.self.writer.now l.self.reader.now (drop l.field l.routes) ≡ statements_in l.self.writer.now l.self.reader.now l.fn.statements.items ++ fields_code l.self.writer.now l.self.reader.now l.routes;
  known : AreKnown l.self.writer.now l.self.reader.now l.known;
  left : AreRoutes (length l.self.writer.now) (length l.self.reader.now) MOST_FIELDS (drop l.field l.routes);
}
