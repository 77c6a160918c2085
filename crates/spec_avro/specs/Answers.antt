-- What resolution makes of data that are of a writer's node (Avro 1.11, "Schema Resolution"), and what is answered.
use Rattle.std.specs.Prelude.{◌≡◌, ℕ, List, Ok}
use Rattle.spec_avro.specs.Node.{Node}
use Rattle.spec_avro.specs.Datum.{Datum}
use Rattle.spec_avro.specs.Conforming.{Conforms}
use Rattle.spec_avro.specs.Payload.{IsPayload}
use Rattle.spec_avro.specs.Spelling.{Spells}
use Rattle.spec_avro.specs.Outcome.{Done}
use Rattle.spec_avro.specs.PayloadOutcome.{IsOutcome}
use Rattle.spec_avro.specs.Resolution.{resolved}

-- what comes of a writer's datum is a datum of the reader's
abbrev pub ResolutionIsWhole : List Node → List Node → Type 0
ResolutionIsWhole W R = (w r : ℕ) (d e : Datum) → Conforms W w d → resolved W R w r d ≡ Ok e → Conforms R r e

-- an answer spells the datum of the reader's root that comes of the payload's
abbrev pub AnswersAreSpelled : List Node → List Node → Type 0
AnswersAreSpelled W R = (payload bytes : List ℕ) → IsOutcome W R payload (Done bytes) →
    (d : Datum) × (e : Datum) × IsPayload W d payload × (resolved W R 0 0 d ≡ Ok e) × Conforms R 0 e
    × Spells R 0 e bytes
