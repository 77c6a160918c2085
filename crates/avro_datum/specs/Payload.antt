-- What reading a whole payload answers. This project's own.
use Rattle.std.specs.Prelude.{ℕ, List, Result, Ok, Err}
use Rattle.avro_types.specs.declared.datum.Datum as rust
use Rattle.spec_avro.specs.Node.{Node}
use Rattle.spec_avro.specs.Datum.{Datum}
use Rattle.avro_types.specs.Datum.{datum_of}
use Rattle.avro_datum.specs.declared.payload.PayloadError.{PayloadError}
use Rattle.avro_datum.specs.declared.payload.PayloadError.TheVariants.{Malformed, NoMemory}
use Rattle.spec_avro.specs.Meter.{start}
use Rattle.avro_datum.specs.Decoding.{datum_at}
use Rattle.avro_datum.specs.Memory.{Lacks}
use Rattle.spec_avro.specs.FaultyDatum.{FirstFault}
use Rattle.spec_avro.specs.Payload.{IsPayload}

-- what reading a whole payload answers: the datum that it spells, or its first fault; or memory ran out
abbrev pub ReadsAll : List Node → List ℕ → Result rust.Datum PayloadError → Type 0
ReadsAll nodes payload (Ok d) = IsPayload nodes (datum_of d) payload
ReadsAll nodes payload (Err (Malformed kind at)) = FirstFault nodes payload kind at
ReadsAll nodes payload (Err NoMemory) = Lacks nodes 0 (datum_at nodes payload 0 0 start)
