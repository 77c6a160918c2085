-- What compiling a pair of schemas answers. This project's own.
use Rattle.std.specs.Prelude.{◌≡◌, List, Some, None, Result, Ok, Err}
use Rattle.spec_avro.specs.Node.{Node}
use Rattle.spec_machine.specs.Program.{Program}
use Rattle.spec_machine.specs.Code.{code_of}
use Rattle.program_compiler.specs.declared.error.CompileError.{CompileError}
use Rattle.program_compiler.specs.declared.error.CompileError.TheVariants.{ProgramTooLarge, NoMemory}

-- the pair's program, and an error only where a limit is passed or memory ran out
abbrev pub Compiles : List Node → List Node → Result Program CompileError → Type 0
Compiles W R (Ok P) = code_of W R ≡ Some P
Compiles W R (Err ProgramTooLarge) = code_of W R ≡ None
Compiles W R (Err NoMemory) = Unit {0}
