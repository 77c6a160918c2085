-- The statements so far, before those of the fields that are left, are all of them.
use Rattle.std.proofs.Common.{◌≡◌, ◌++◌, List, drop}
use Rattle.spec_avro.specs.Node.{Node}
use Rattle.avro_types.specs.Node.{fields_of}
use Rattle.spec_machine.specs.Writing.{defaults_code}
use Rattle.program_ir.specs.Statements.{statements_in}
use Rattle.program_compiler.proofs.schema_pair.SchemaPair.put_defaults.Given as goal

abbrev pub invariant-loop-position : goal.invariant-loop-position
invariant-loop-position l = (W : List Node) → statements_in W l.self.reader.now l.statements.items ++ defaults_code l.routes l.position (fields_of (drop l.position l.rs)) ≡ statements_in W l.self.reader.now l.fn.statements.items ++ defaults_code l.routes 0 (fields_of l.rs)
