-- What transcoding a payload returns: its outcome, or why there is none. This project's own.
use Rattle.std.specs.Prelude.{◌≡◌, ℕ, List, length, Option, Some, None, Result, Ok, Err, nat_lt, if◌then◌else◌}
use Rattle.spec_avro.specs.Node.{Node}
use Rattle.spec_avro.specs.declared.limits.TheConstants.{MOST_PAYLOAD}
use Rattle.spec_avro.specs.Outcome.{Outcome, outcome_of}
use Rattle.spec_avro.specs.declared.outcome.Outcome as rust
use Rattle.spec_avro.specs.declared.transcode_error.TranscodeError.{TranscodeError}
use Rattle.spec_avro.specs.declared.transcode_error.TranscodeError.TheVariants.{TooLarge, NoMemory}
use Rattle.spec_avro.specs.PayloadOutcome.{IsOutcome}

-- why transcoding answers no outcome
abbrev pub refusal : List ℕ → Option TranscodeError
refusal payload = if nat_lt MOST_PAYLOAD (length payload) then Some TooLarge else None

-- what transcoding answers: the outcome, or the refusal, unless memory ran out
abbrev pub Transcodes : List Node → List Node → List ℕ → Result rust.Outcome TranscodeError → Type 0
Transcodes W R payload (Ok outcome) = (refusal payload ≡ None) × IsOutcome W R payload (outcome_of outcome)
Transcodes W R payload (Err NoMemory) = refusal payload ≡ None
Transcodes W R payload (Err TooLarge) = refusal payload ≡ Some TooLarge
