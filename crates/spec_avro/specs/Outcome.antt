-- What becomes of a payload. This project's own.
use Rattle.std.specs.Prelude.{ℕ, List}
use Rattle.spec_avro.specs.declared.malformed.MalformedKind.{MalformedKind}
use Rattle.spec_avro.specs.declared.mismatch.Mismatch.{Mismatch}
use Rattle.spec_avro.specs.declared.outcome.Outcome as rust
use Rattle.spec_avro.specs.declared.outcome.Outcome.TheVariants as variants

pub data Outcome : Type 0 where
  -- the written form of what the reader makes of the datum
  Done : List ℕ → Outcome
  Mismatched : Mismatch → Outcome
  -- the first fault, and its offset in the payload
  Malformed : MalformedKind → ℕ → Outcome
  -- the written form would pass its limit
  OutputTooLarge : Outcome

abbrev pub outcome_of : rust.Outcome → Outcome
outcome_of (variants.Done bytes) = Done bytes.items
outcome_of (variants.Mismatch m) = Mismatched m
outcome_of (variants.Malformed kind at) = Malformed kind at
outcome_of variants.OutputTooLarge = OutputTooLarge
