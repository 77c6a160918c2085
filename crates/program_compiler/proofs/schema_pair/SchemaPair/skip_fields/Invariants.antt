-- The statements so far, before those of the fields that are left, are all of them.
use Rattle.std.proofs.Common.{◌≡◌, ◌++◌, drop, length}
use Rattle.avro_types.specs.Node.{fields_of}
use Rattle.spec_avro.specs.WellFormed.{FieldsBelow}
use Rattle.spec_machine.specs.Skipping.{skip_fields}
use Rattle.program_ir.specs.Statements.{statements_in}
use Rattle.program_compiler.proofs.schema_pair.SchemaPair.skip_fields.Given as goal

abbrev pub invariant-loop-field : goal.invariant-loop-field
invariant-loop-field l = record {
  so_far : statements_in l.self.writer.now l.self.reader.now l.statements.items ++ skip_fields l.self.writer.now (fields_of (drop l.field-index l.fields)) ≡ statements_in l.self.writer.now l.self.reader.now l.fn.statements.items ++ skip_fields l.self.writer.now (fields_of l.fields);
  left : FieldsBelow (length l.self.writer.now) (fields_of (drop l.field-index l.fields));
}
