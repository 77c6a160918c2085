-- The codes, statuses and texts of faults (Confluent Schema Registry API, "Errors"; 41301, those from 42250 on and 501
-- are this project's own, and so are the texts).
use Rattle.std.specs.Prelude.{ℕ, List, ◌++◌, codes, decimal}
use Rattle.spec_avro.specs.MalformedKind.{name_of as name_of_kind}
use Rattle.spec_avro.specs.MismatchKind.{name_of as name_of_mismatch}
use Rattle.spec_schema.specs.SchemaError.{name_of as name_of_schema_error}
use Rattle.spec_registry.specs.Envelope.{name_of as name_of_envelope_error}
use Rattle.spec_service.specs.declared.status.Status.{Status}
use Rattle.spec_service.specs.declared.status.Status.TheVariants as statuses
use Rattle.spec_service.specs.declared.fault.Fault.{Fault}
use Rattle.spec_service.specs.declared.fault.Fault.TheVariants as faults
use Rattle.spec_service.specs.UpstreamFault.{name_of as name_of_upstream_fault}

abbrev pub code_of : Fault → ℕ
code_of faults.BadRequest = 400
code_of faults.NoRoute = 404
code_of faults.NotAllowed = 405
code_of faults.NoSubject = 40401
code_of faults.NoVersion = 40402
code_of faults.NoSchema = 40403
code_of faults.Incompatible = 409
code_of faults.TooLarge = 41301
code_of faults.UnknownCoding = 501
code_of faults.BadBody = 42201
code_of (faults.BadSchema error) = 42201
code_of faults.NotAvro = 42201
code_of faults.HasReferences = 42201
code_of faults.BadVersion = 42202
code_of faults.BadLevel = 42203
code_of (faults.Malformed kind at) = 42250
code_of (faults.Mismatch mismatch) = 42251
code_of faults.OutputTooLarge = 42252
code_of (faults.BadEnvelope error) = 42253
code_of faults.ProgramTooLarge = 42254
code_of faults.BadSubject = 42261
code_of faults.Clash = 50001
code_of faults.NoMemory = 50301
code_of faults.Full = 50302
code_of faults.NotFinished = 50303
code_of faults.NotStored = 50304
code_of faults.Elsewhere = 404
code_of (faults.Upstream fault) = 50305

abbrev pub status_of : Fault → Status
status_of faults.BadRequest = statuses.BadRequest
status_of faults.NoRoute = statuses.NotFound
status_of faults.NotAllowed = statuses.MethodNotAllowed
status_of faults.NoSubject = statuses.NotFound
status_of faults.NoVersion = statuses.NotFound
status_of faults.NoSchema = statuses.NotFound
status_of faults.Incompatible = statuses.Conflict
status_of faults.TooLarge = statuses.PayloadTooLarge
status_of faults.UnknownCoding = statuses.NotImplemented
status_of faults.BadBody = statuses.UnprocessableEntity
status_of (faults.BadSchema error) = statuses.UnprocessableEntity
status_of faults.NotAvro = statuses.UnprocessableEntity
status_of faults.HasReferences = statuses.UnprocessableEntity
status_of faults.BadVersion = statuses.UnprocessableEntity
status_of faults.BadLevel = statuses.UnprocessableEntity
status_of (faults.Malformed kind at) = statuses.UnprocessableEntity
status_of (faults.Mismatch mismatch) = statuses.UnprocessableEntity
status_of faults.OutputTooLarge = statuses.UnprocessableEntity
status_of (faults.BadEnvelope error) = statuses.UnprocessableEntity
status_of faults.ProgramTooLarge = statuses.UnprocessableEntity
status_of faults.BadSubject = statuses.UnprocessableEntity
status_of faults.Clash = statuses.InternalServerError
status_of faults.NoMemory = statuses.ServiceUnavailable
status_of faults.Full = statuses.ServiceUnavailable
status_of faults.NotFinished = statuses.ServiceUnavailable
status_of faults.NotStored = statuses.ServiceUnavailable
status_of faults.Elsewhere = statuses.NotFound
status_of (faults.Upstream fault) = statuses.ServiceUnavailable

abbrev pub message_of : Fault → List ℕ
message_of faults.BadRequest = codes "bad request"
message_of faults.NoRoute = codes "no such route"
message_of faults.NotAllowed = codes "method not allowed"
message_of faults.NoSubject = codes "subject not found"
message_of faults.NoVersion = codes "version not found"
message_of faults.NoSchema = codes "schema not found"
message_of faults.Incompatible = codes "incompatible schema"
message_of faults.TooLarge = codes "too large"
message_of faults.UnknownCoding = codes "unknown transfer coding"
message_of faults.BadBody = codes "invalid schema: Body"
message_of (faults.BadSchema error) = codes "invalid schema: " ++ name_of_schema_error error
message_of faults.NotAvro = codes "invalid schema: NotAvro"
message_of faults.HasReferences = codes "invalid schema: References"
message_of faults.BadVersion = codes "invalid version"
message_of faults.BadLevel = codes "invalid level"
message_of (faults.Malformed kind at) = codes "malformed " ++ name_of_kind kind ++ codes " at " ++ decimal at
message_of (faults.Mismatch mismatch) =
    codes "mismatch " ++ name_of_mismatch mismatch.kind ++ codes " " ++ decimal mismatch.writer_node
    ++ codes " " ++ decimal mismatch.reader_node
message_of faults.OutputTooLarge = codes "output too large"
message_of (faults.BadEnvelope error) = codes "bad envelope: " ++ name_of_envelope_error error
message_of faults.ProgramTooLarge = codes "program too large"
message_of faults.BadSubject = codes "invalid subject"
message_of faults.Clash = codes "clash"
message_of faults.NoMemory = codes "no memory"
message_of faults.Full = codes "full"
message_of faults.NotFinished = codes "not finished"
message_of faults.NotStored = codes "not stored"
message_of faults.Elsewhere = codes "no such route: ask the upstream registry"
message_of (faults.Upstream fault) = codes "upstream registry: " ++ name_of_upstream_fault fault
