-- What a session of a pool comes to. All of this is this project's own.
use Rattle.std.specs.Prelude.{ℕ, List}
use Rattle.spec_avro.specs.Outcome.{outcome_of}
use Rattle.spec_avro.specs.declared.outcome.Outcome as rust
use Rattle.spec_avro.specs.PayloadOutcome.{IsOutcome}
use Rattle.spec_sessions.specs.Pass.{Pass}

-- the outcome of a payload for the pair of a pass
abbrev pub IsOutcomeOf : Pass → List ℕ → rust.Outcome → Type 0
IsOutcomeOf pass payload outcome =
    IsOutcome pass.pair.writer.nodes pass.pair.reader.nodes payload (outcome_of outcome)
