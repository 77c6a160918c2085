-- The numbers by which reports cross to another language. All of them are this project's own.
use Rattle.std.specs.Prelude.{ℕ}
use Rattle.spec_avro.specs.declared.malformed.MalformedKind.{MalformedKind}
use Rattle.spec_avro.specs.declared.malformed.MalformedKind.TheVariants as malformed
use Rattle.spec_avro.specs.MismatchKind as mismatch
use Rattle.spec_registry.specs.declared.envelope.EnvelopeError.{EnvelopeError}
use Rattle.spec_registry.specs.declared.envelope.EnvelopeError.TheVariants as envelopes
use Rattle.embedding.specs.declared.numbers.ReportNumbers.{ReportNumbers}
use Rattle.spec_library.specs.declared.report.PayloadReport.{PayloadReport}
use Rattle.spec_library.specs.declared.report.PayloadReport.TheVariants as payloads
use Rattle.spec_library.specs.declared.report.Report.{Report}
use Rattle.spec_library.specs.declared.report.Report.TheVariants as reports
use Rattle.embedding.specs.declared.status.Status.{Status}
use Rattle.embedding.specs.declared.status.Status.TheVariants as statuses
use Rattle.embedding.specs.Status.{code_of}

abbrev pub malformed_code : MalformedKind → ℕ
malformed_code malformed.BadNumber = 1
malformed_code malformed.BadBoolean = 2
malformed_code malformed.BadLength = 3
malformed_code malformed.BadText = 4
malformed_code malformed.BadEnum = 5
malformed_code malformed.BadBranch = 6
malformed_code malformed.BadBlock = 7
malformed_code malformed.TooDeep = 8
malformed_code malformed.TooMany = 9
malformed_code malformed.Truncated = 10
malformed_code malformed.Trailing = 11

abbrev pub envelope_code : EnvelopeError → ℕ
envelope_code envelopes.ShortEnvelope = 1
envelope_code envelopes.BadMagic = 2

-- a status without parts
abbrev pub bare : Status → ReportNumbers
bare status = record {
  status = code_of status;
  kind = 0;
  length = 0;
  offset = 0;
  writer_node = 0;
  reader_node = 0;
  writer_id = 0;
}

abbrev pub payload_numbers : PayloadReport → ReportNumbers
payload_numbers (payloads.Done length) = record (bare statuses.Done) { length = length }
payload_numbers (payloads.RoomTooSmall length) = record (bare statuses.RoomTooSmall) { length = length }
payload_numbers (payloads.Mismatch m) = record (bare statuses.Mismatch) {
  kind = mismatch.code_of m.kind;
  writer_node = m.writer_node;
  reader_node = m.reader_node;
}
payload_numbers (payloads.Malformed kind at) = record (bare statuses.Malformed) {
  kind = malformed_code kind;
  offset = at;
}
payload_numbers payloads.OutputTooLarge = bare statuses.OutputTooLarge
payload_numbers payloads.PayloadTooLarge = bare statuses.PayloadTooLarge
payload_numbers payloads.NoMemory = bare statuses.NoMemory

abbrev pub numbers_of : Report → ReportNumbers
numbers_of (reports.Payload report) = payload_numbers report
numbers_of reports.Closed = bare statuses.Closed
numbers_of (reports.BadEnvelope error) = record (bare statuses.BadEnvelope) { kind = envelope_code error }
numbers_of (reports.OtherWriter id) = record (bare statuses.OtherWriter) { writer_id = id }
numbers_of reports.OutOfRange = bare statuses.OutOfRange
