-- For a private clause: the outcome of a datum that was resolved.
use Rattle.std.specs.Prelude.{◌≡◌, ◌≤◌, ◌<◌, length, Result, Ok, Err}
use Rattle.spec_avro.specs.Datum.{Datum}
use Rattle.spec_avro.specs.declared.limits.TheConstants.{MOST_OUTPUT}
use Rattle.spec_avro.specs.Writing.{written}
use Rattle.spec_avro.specs.Outcome.{Outcome, Done, Malformed, OutputTooLarge}
use Rattle.spec_avro.specs.declared.outcome.Outcome as rust
use Rattle.spec_avro.specs.declared.outcome.Outcome.TheVariants as variants
use Rattle.spec_avro.specs.declared.transcode_error.TranscodeError.{TranscodeError}
use Rattle.spec_avro.specs.declared.transcode_error.TranscodeError.TheVariants.{TooLarge, NoMemory}

-- for a private clause: the outcome of a datum that was resolved
abbrev pub WritesOutcome : Result rust.Outcome TranscodeError → Datum → Type 0
WritesOutcome (Ok (variants.Done bytes)) e = (bytes.items ≡ written e) × (length (written e) ≤ MOST_OUTPUT)
WritesOutcome (Ok variants.OutputTooLarge) e = MOST_OUTPUT < length (written e)
WritesOutcome (Ok (variants.Mismatch m)) e = ⊥
WritesOutcome (Ok (variants.Malformed kind at)) e = ⊥
WritesOutcome (Err NoMemory) e = Unit {0}
WritesOutcome (Err TooLarge) e = ⊥
