-- What a batch reports: of each item what its payload alone would report, with the room from where the outputs before
-- it end. All of this is this project's own.
use Rattle.std.specs.Prelude.{◌≡◌, ◌≤◌, ◌<◌, ◌+◌, ◌==◌, ℕ, List, [], ◌∷◌, length, take, drop, Option, Some, None, if◌then◌else◌}
use Rattle.embedding.specs.declared.batch.BatchItem.{BatchItem}
use Rattle.embedding.specs.declared.numbers.ReportNumbers.{ReportNumbers}
use Rattle.spec_library.specs.declared.report.Report.{Report}
use Rattle.spec_library.specs.declared.report.Report.TheVariants as reports
use Rattle.embedding.specs.declared.status.Status.TheVariants as statuses
use Rattle.embedding.specs.Numbers.{numbers_of}
use Rattle.spec_library.specs.Pair.{Pair}
use Rattle.spec_library.specs.Report.{IsPayloadReport}
use Rattle.embedding.specs.Status.{code_of}

-- what a caller asks of an item: where its payload lies
abbrev pub range_of : BatchItem → ℕ × ℕ
range_of item = (item.payload_offset, item.payload_length)

-- its payload, in the buffer that the items share
abbrev pub payload_of : List ℕ → BatchItem → List ℕ
payload_of payloads item = take item.payload_length (drop item.payload_offset payloads)

-- what is reported of an item's payload, with this room for its output
abbrev pub ReportsItem : Pair → List ℕ → List ℕ → BatchItem → Report → Type 0
ReportsItem pair payloads room item (reports.Payload report) =
    (item.payload_offset + item.payload_length ≤ length payloads)
    × IsPayloadReport pair [] (payload_of payloads item) room report
ReportsItem pair payloads room item reports.OutOfRange = length payloads < item.payload_offset + item.payload_length
ReportsItem pair payloads room item _ = ⊥

-- an item whose output begins at an offset, or would
abbrev pub IsItem : Pair → List ℕ → List ℕ → ℕ → BatchItem → Type 0
IsItem pair payloads room at item = (item.output_offset ≡ at)
    × (report : Report) × ReportsItem pair payloads (drop at room) item report × (item.report ≡ numbers_of report)

-- how much of the room an item's output has
abbrev pub length_told : ReportNumbers → ℕ
length_told numbers = if numbers.status == code_of statuses.Done then numbers.length else 0

abbrev pub output_length : BatchItem → ℕ
output_length item = length_told item.report

-- the items of a batch, the first of which begins at an offset
abbrev pub IsBatch : Pair → List ℕ → List ℕ → ℕ → List BatchItem → Type 0
IsBatch pair payloads room at [] = Unit {0}
IsBatch pair payloads room at (item ∷ items) = IsItem pair payloads room at item
    × IsBatch pair payloads room (at + output_length item) items

-- what a batch reports on a handle with the transcoder of a pair; on one with none it reports that it is closed
abbrev pub ReportsBatch : Option Pair → List ℕ → List ℕ → List BatchItem → ℕ → Type 0
ReportsBatch (Some pair) payloads room items status =
    (status ≡ code_of statuses.Done) × IsBatch pair payloads room 0 items
ReportsBatch None payloads room items status = status ≡ code_of statuses.Closed
