-- What a store of programs answers for a pair of schemas. All of this is this project's own.
use Rattle.std.specs.Prelude.{◌≡◌, List, Some, None, Result, Ok, Err}
use Rattle.spec_avro.specs.Node.{Node}
use Rattle.std.proofs.Common.{Bor}
use Rattle.spec_machine.specs.Program.{Program}
use Rattle.spec_machine.specs.Code.{code_of}
use Rattle.spec_sessions.specs.declared.publish_error.PublishError.{PublishError}
use Rattle.spec_sessions.specs.declared.publish_error.PublishError.TheVariants.{Clash, NoMemory, ProgramTooLarge}

-- the program of the pair, or that it passes a limit; else memory ran out, or the store holds something else in its
-- place
abbrev pub IsPublished : List Node → List Node → Result (Bor Program) PublishError → Type 0
IsPublished W R (Ok P) = code_of W R ≡ Some P.now
IsPublished W R (Err ProgramTooLarge) = code_of W R ≡ None
IsPublished W R (Err Clash) = Unit {0}
IsPublished W R (Err NoMemory) = Unit {0}
