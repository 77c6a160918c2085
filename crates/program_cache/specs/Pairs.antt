-- What a cache answers for two schemas. All of this is this project's own.
use Rattle.std.specs.Prelude.{◌≡◌, Result, Ok, Err, None}
use Rattle.std.proofs.Common.{Bor}
use Rattle.spec_schema.specs.Schema.{Declaration}
use Rattle.spec_sessions.specs.ProgramPair.{IsProgramOf, Pair}
use Rattle.spec_machine.specs.Code.{code_of}
use Rattle.spec_sessions.specs.declared.publish_error.PublishError.{PublishError}
use Rattle.spec_sessions.specs.declared.publish_error.PublishError.TheVariants as errors
use Rattle.program_cache.specs.Compiled.{IsOther}
use Rattle.program_cache.specs.declared.refusal.PairRefusal.{PairRefusal}
use Rattle.program_cache.specs.declared.refusal.PairRefusal.TheVariants.{Clash, NoMemory, ProgramTooLarge}

-- The program of the two, or that they have none; or another pair, which has their cell; or memory ran out.
abbrev pub IsPairAnswer : Declaration → Declaration → Result (Bor Pair) PairRefusal → Type 0
IsPairAnswer writer reader (Ok pair) = IsProgramOf writer reader pair.now
IsPairAnswer writer reader (Err ProgramTooLarge) = code_of writer.nodes reader.nodes ≡ None
IsPairAnswer writer reader (Err (Clash other)) = IsOther writer reader other.now
IsPairAnswer writer reader (Err NoMemory) = Unit {0}

-- a refusal without the other pair
abbrev pub publish_error : PairRefusal → PublishError
publish_error ProgramTooLarge = errors.ProgramTooLarge
publish_error (Clash other) = errors.Clash
publish_error NoMemory = errors.NoMemory
