-- A pair of schemas and its program. All of this is this project's own.
use Rattle.std.specs.Prelude.{◌≡◌, Some}
use Rattle.spec_schema.specs.Schema.{Declaration}
use Rattle.spec_machine.specs.Program.{Program}
use Rattle.spec_machine.specs.Code.{code_of}

pub record Pair : Type 0 where
  pub writer : Declaration
  pub reader : Declaration
  pub program : Program

-- its program is that of these two schemas, which have the texts of its own
pub record IsProgramOf (writer reader : Declaration) (pair : Pair) : Type 0 where
  pub writer_text : pair.writer.text ≡ writer.text
  pub reader_text : pair.reader.text ≡ reader.text
  pub code : code_of writer.nodes reader.nodes ≡ Some pair.program
