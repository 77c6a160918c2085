-- The output for an input, and the status. This project's own.
use Rattle.std.specs.Prelude.{◌≡◌, ⊤, ℕ, Bool, List, [], ◌∷◌, ◌++◌, drop, if◌then◌else◌, MatchOption, MatchResult}
use Rattle.hex.specs.Hex.{encode_lower}
use Rattle.spec_avro.specs.Node.{Node}
use Rattle.spec_machine.specs.Assembling.{assembled}
use Rattle.spec_machine.specs.Listing.{listing_of}
use Rattle.spec_machine.specs.Image.{image_of}
use Rattle.spec_machine.specs.Program.{Program}
use Rattle.spec_machine.specs.Code.{code_of}
use Rattle.spec_lines.specs.Answer.{AreAnswers, IsAnswers}
use Rattle.spec_lines.specs.Lines.{line_at, lines}
use Rattle.spec_lines.specs.Listed.{listed}
use Rattle.spec_lines.specs.Debugging.{IsDebugged, debugged}
use Rattle.spec_lines.specs.Replaying.{IsReplayed}
use Rattle.spec_lines.specs.Refusal.{IsRefused}
use Rattle.spec_lines.specs.Running.{IsRunLine}
use Rattle.spec_lines.specs.Schemas.{schemas_of}
use Rattle.spec_lines.specs.declared.verb.Verb.{Verb}
use Rattle.spec_lines.specs.declared.verb.Verb.TheVariants.{Compile, Debug, Replay, Run, Transcode}
use Rattle.spec_lines.specs.declared.refusal.Refusal.{Refusal}
use Rattle.spec_lines.specs.declared.refusal.Refusal.TheVariants.{BadListing, ProgramTooLarge}
use Rattle.spec_lines.specs.declared.status.Status.{Status}
use Rattle.spec_lines.specs.declared.status.Status.TheVariants.{Answered}

-- a program as its listing, or as its image in one line of hexadecimal
abbrev pub text_of_program : Bool → Program → List ℕ
text_of_program image P = if image then encode_lower (image_of P) ++ 10 ∷ [] else listing_of P

-- the output of `transcode` for a pair of schemas and the lines after them
abbrev pub IsTranscoded : List Node → List Node → List (List ℕ) → List ℕ → Status → Type 0
IsTranscoded W R payloads output status =
    MatchOption (code_of W R) (IsRefused ProgramTooLarge output status)
    (λ P. IsAnswers W R payloads output × (status ≡ Answered))

-- that of `compile`, which ignores the lines after them
abbrev pub IsCompiled : Bool → List Node → List Node → List (List ℕ) → List ℕ → Status → Type 0
IsCompiled image W R later output status =
    MatchOption (code_of W R) (IsRefused ProgramTooLarge output status)
    (λ P. (output ≡ text_of_program image P) × (status ≡ Answered))

-- an output for the schemas in the first two lines and the lines after them
abbrev pub IsForSchemas : (List Node → List Node → List (List ℕ) → List ℕ → Status → Type 0)
    → List ℕ → List ℕ → Status → Type 0
IsForSchemas IsOutputOf input output status =
    let inputs = lines input in
    MatchResult (schemas_of inputs)
    (λ pair. IsOutputOf pair.0 pair.1 (drop 2 inputs) output status)
    (λ refusal. IsRefused refusal output status)

-- the output of `run` for a listing and the payload lines after it
abbrev pub IsRun : ℕ → List ℕ → List ℕ → Status → Type 0
IsRun steps input output status =
    let parts = listed input in
    MatchResult (assembled parts.0)
    (λ P. AreAnswers (IsRunLine P steps) parts.1 output × (status ≡ Answered))
    (λ fault. IsRefused (BadListing fault) output status)

-- that of `debug` for a pair of schemas, a payload's line and the commands after it
abbrev pub IsDebug : List Node → List Node → List (List ℕ) → List ℕ → Status → Type 0
IsDebug W R later output status =
    MatchResult (debugged W R (line_at later 0))
    (λ given. IsDebugged given.0 given.1 (drop 1 later) output × (status ≡ Answered))
    (λ refusal. IsRefused refusal output status)

-- that of `replay`
abbrev pub IsReplay : List ℕ → List ℕ → Status → Type 0
IsReplay input output status = IsReplayed (lines input) output × (status ≡ Answered)

-- a verb's output for an input, and its status
abbrev pub IsOutput : Verb → List ℕ → List ℕ → Status → Type 0
IsOutput Transcode = IsForSchemas IsTranscoded
IsOutput (Compile image) = IsForSchemas (IsCompiled image)
IsOutput (Run steps) = IsRun steps
IsOutput Debug = IsForSchemas IsDebug
IsOutput Replay = IsReplay

-- not a verb whose output may report want of memory in the midst of an input
abbrev pub IsSettled : Verb → Type 0
IsSettled Debug = ⊥
IsSettled Replay = ⊥
IsSettled verb = ⊤

-- where that is settled, each input has an output, and just one, with one status
abbrev pub HasOutput : Type 0
HasOutput = (verb : Verb) (input : List ℕ) → IsSettled verb
    → (output : List ℕ) × (status : Status) × IsOutput verb input output status

abbrev pub HasOneOutput : Type 0
HasOneOutput = (verb : Verb) (input one other : List ℕ) (status further : Status) → IsSettled verb →
    IsOutput verb input one status → IsOutput verb input other further → (one ≡ other) × (status ≡ further)
