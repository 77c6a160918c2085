-- The outcome of a payload, said of the relations and not of what reads it.
use Rattle.std.specs.Prelude.{◌≡◌, ◌≤◌, ◌<◌, ℕ, List, length, Ok, Err}
use Rattle.spec_avro.specs.Datum.{Datum}
use Rattle.spec_avro.specs.Node.{Node}
use Rattle.spec_avro.specs.declared.limits.TheConstants.{MOST_OUTPUT}
use Rattle.spec_avro.specs.FaultyDatum.{FirstFault}
use Rattle.spec_avro.specs.Payload.{IsPayload}
use Rattle.spec_avro.specs.Writing.{written}
use Rattle.spec_avro.specs.Outcome.{Outcome, Done, Mismatched, Malformed, OutputTooLarge}
use Rattle.spec_avro.specs.Resolution.{resolved}

-- The payload is malformed; or it spells a datum of the writer's root which has no place with the reader; or it
-- spells one of which the reader makes a datum, whose written form passes the limit; or that form is the answer.
abbrev pub IsOutcome : List Node → List Node → List ℕ → Outcome → Type 0
IsOutcome W R payload (Malformed kind at) = FirstFault W payload kind at
IsOutcome W R payload (Mismatched m) = (d : Datum) × IsPayload W d payload × (resolved W R 0 0 d ≡ Err m)
IsOutcome W R payload OutputTooLarge =
    (d : Datum) × (e : Datum) × IsPayload W d payload × (resolved W R 0 0 d ≡ Ok e)
    × (MOST_OUTPUT < length (written e))
IsOutcome W R payload (Done bytes) =
    (d : Datum) × (e : Datum) × IsPayload W d payload × (resolved W R 0 0 d ≡ Ok e) × (bytes ≡ written e)
    × (length (written e) ≤ MOST_OUTPUT)
