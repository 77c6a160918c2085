-- What a pair of schemas was compiled to. All of this is this project's own.
use Rattle.std.specs.Prelude.{◌≡◌, None}
use Rattle.spec_schema.specs.Schema.{Declaration}
use Rattle.spec_sessions.specs.ProgramPair.{IsProgramOf}
use Rattle.spec_machine.specs.Code.{code_of}
use Rattle.program_cache.specs.declared.compiled.Compiled.{Compiled}
use Rattle.program_cache.specs.declared.compiled.Compiled.TheVariants.{Program, TooLarge}
use Rattle.program_cache.specs.declared.compiled.LargePair.{LargePair}

-- these two schemas have no program, and their texts are those of its own
pub record IsLargePair (writer reader : Declaration) (pair : LargePair) : Type 0 where
  pub writer_text : pair.writer.text ≡ writer.text
  pub reader_text : pair.reader.text ≡ reader.text
  pub none : code_of writer.nodes reader.nodes ≡ None

-- the program of these two schemas, or that they have none
abbrev pub IsCompiled : Declaration → Declaration → Compiled → Type 0
IsCompiled writer reader (Program pair) = IsProgramOf writer reader pair
IsCompiled writer reader (TooLarge pair) = IsLargePair writer reader pair

-- these two schemas have not both of the texts of the others
abbrev pub IsOtherPair : Declaration → Declaration → Declaration → Declaration → Type 0
IsOtherPair writer reader other_writer other_reader =
    ¬ ((other_writer.text ≡ writer.text) × (other_reader.text ≡ reader.text))

-- what another pair was compiled to
abbrev pub IsOther : Declaration → Declaration → Compiled → Type 0
IsOther writer reader (Program pair) = IsOtherPair writer reader pair.writer pair.reader
IsOther writer reader (TooLarge pair) = IsOtherPair writer reader pair.writer pair.reader
