-- What a pair was compiled to answers for its schemas.
use Rattle.std.proofs.Common.{◌≡◌, Option, Some, None, IfSome, subst, Bor}
use Rattle.std.specs.Prelude.{Result}
use Rattle.spec_schema.specs.Schema.{Declaration}
use Rattle.spec_sessions.specs.ProgramPair.{Pair}
use Rattle.spec_registry.specs.Receipt.{Shown}
use Rattle.program_cache.specs.declared.compiled.Compiled.{Compiled}
use Rattle.program_cache.specs.declared.refusal.PairRefusal.{PairRefusal}
use Rattle.program_cache.specs.Compiled.{IsCompiled}
use Rattle.program_cache.specs.Known.{IsCompiledOf}
use Rattle.program_cache.specs.Pairs.{IsPairAnswer}

-- an answer for each pair that is compiled so is one for the two schemas
of_schemas : (writer reader : Option Declaration) (compiled : Compiled) (result : Result (Bor Pair) PairRefusal) → ((w r : Declaration) → IsCompiled w r compiled → IsPairAnswer w r result)
    → IfSome writer (λ w. IfSome reader (λ r. IsCompiled w r compiled)) → IfSome writer (λ w. IfSome reader (λ r. IsPairAnswer w r result))
of_schemas None reader compiled result answers is = tt
of_schemas (Some w) None compiled result answers is = tt
of_schemas (Some w) (Some r) compiled result answers is = answers w r is

-- the answer for two receipts that were handed on
pub answers_for : (writer reader handed_writer handed_reader : Shown) (compiled : Compiled) (result : Result (Bor Pair) PairRefusal) → handed_writer ≡ writer → handed_reader ≡ reader
    → ((w r : Declaration) → IsCompiled w r compiled → IsPairAnswer w r result) → IsCompiledOf handed_writer handed_reader compiled → IfSome writer.schema (λ w. IfSome reader.schema (λ r. IsPairAnswer w r result))
answers_for writer reader handed_writer handed_reader compiled result same_writer same_reader answers is =
    of_schemas writer.schema reader.schema compiled result answers
    (subst (λ (s : Shown). IsCompiledOf s reader compiled) same_writer (subst (λ (s : Shown). IsCompiledOf handed_writer s compiled) same_reader is))
