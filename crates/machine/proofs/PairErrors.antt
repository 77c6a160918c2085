-- What a transcoder of a pair answers for a payload is the pair's answer.
use Rattle.std.proofs.Common.{ℕ, List, subst}
use Rattle.std.specs.Prelude.{Err, Ok}
use Rattle.spec_avro.specs.Node.{Node}
use Rattle.spec_avro.specs.declared.outcome.Outcome as rust
use Rattle.spec_avro.specs.Transcoding.{Transcodes}
use Rattle.spec_avro.specs.declared.transcode_error.TranscodeError.{TranscodeError}
use Rattle.spec_avro.specs.declared.transcode_error.TranscodeError.TheVariants as refusals
use Rattle.machine.specs.Pair.{Pair}
use Rattle.machine.specs.declared.transcoding.PairError.TheVariants.{NoOutcome}
use Rattle.machine.specs.Transcoding.{Makes, TranscodesPair}

module _ (W R : List Node) (payload : List ℕ) (pair : Pair) (made : Makes W R (Ok pair)) where
  refused : (e : TranscodeError) → Transcodes W R payload (Err e) → TranscodesPair W R payload (Err (NoOutcome e))
  refused refusals.TooLarge t = (made.0, t)
  refused refusals.NoMemory t = tt

  pub payload_refused : (e : TranscodeError) → Transcodes pair.writer pair.reader payload (Err e) → TranscodesPair W R payload (Err (NoOutcome e))
  payload_refused e t = refused e (subst (λ (x : Pair). Transcodes x.writer x.reader payload (Err e)) made.1 t)

  pub outcome_told : (o : rust.Outcome) → Transcodes pair.writer pair.reader payload (Ok o) → TranscodesPair W R payload (Ok o)
  outcome_told o t = let u = subst (λ (x : Pair). Transcodes x.writer x.reader payload (Ok o)) made.1 t in (made.0, u.0, u.1)
