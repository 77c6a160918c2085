-- What is reported of two texts: their pair, or why they make none; and whether one can read what the other writes. All
-- of this is this project's own.
use Rattle.std.specs.Prelude.{◌≡◌, ◌≢◌, ◌↔◌, ℕ, List, Bool, true, false, IsTrue, Option, Some, None, Result, Ok, Err}
use Rattle.std.specs.Str.{IsUtf8}
use Rattle.spec_schema.specs.Schema.{Declaration, schema_of}
use Rattle.spec_schema.specs.declared.schema_error.SchemaError.{SchemaError}
use Rattle.spec_schema.specs.declared.schema_error.SchemaError.TheVariants as schema
use Rattle.spec_avro.specs.Node.{Node}
use Rattle.spec_machine.specs.Code.{code_of as program_of}
use Rattle.spec_avro.specs.Safety.{IsSafe}
use Rattle.embedding.specs.declared.opening.OpenError.{OpenError}
use Rattle.embedding.specs.declared.opening.OpenError.TheVariants as errors
use Rattle.embedding.specs.declared.opening.TextFault.{TextFault}
use Rattle.embedding.specs.declared.opening.TextFault.TheVariants as faults
use Rattle.embedding.specs.declared.status.Status.{Status}
use Rattle.embedding.specs.declared.status.Status.TheVariants as statuses
use Rattle.spec_library.specs.Pair.{Pair}
use Rattle.embedding.specs.Status.{code_of}

-- the numbers of the faults of texts
abbrev pub schema_code : SchemaError → ℕ
schema_code schema.TooLarge = 1
schema_code schema.NotJson = 2
schema_code schema.BadNumber = 3
schema_code schema.Unknown = 4
schema_code schema.OutOfProfile = 5
schema_code schema.BadName = 6
schema_code schema.Redefined = 7
schema_code schema.BadUnion = 8
schema_code schema.BadSymbols = 9
schema_code schema.BadDefault = 10
schema_code schema.NoMemory = 11

abbrev pub fault_code : TextFault → ℕ
fault_code faults.NotUtf8 = 12
fault_code (faults.Schema e) = schema_code e

abbrev pub status_of : OpenError → Status
status_of (errors.Writer fault) = statuses.BadWriter
status_of (errors.Reader fault) = statuses.BadReader
status_of errors.ProgramTooLarge = statuses.ProgramTooLarge
status_of errors.NoMemory = statuses.NoMemory

abbrev pub fault_of : OpenError → ℕ
fault_of (errors.Writer fault) = fault_code fault
fault_of (errors.Reader fault) = fault_code fault
fault_of errors.ProgramTooLarge = 0
fault_of errors.NoMemory = 0

-- for a private clause: the first fault of a text, unless memory ran out
abbrev pub IsTextFault : List ℕ → TextFault → Type 0
IsTextFault text faults.NotUtf8 = ¬ (IsUtf8 text)
IsTextFault text (faults.Schema e) = e ≢ schema.NoMemory → schema_of text ≡ Err e

-- for a private clause: the schema of a text, or its first fault, unless memory ran out
abbrev pub ParsesBytes : List ℕ → Result Declaration TextFault → Type 0
ParsesBytes text (Ok s) = schema_of text ≡ Ok s.nodes
ParsesBytes text (Err fault) = IsTextFault text fault

-- the pair that two texts declare
abbrev pub IsPairOfTexts : List ℕ → List ℕ → Pair → Type 0
IsPairOfTexts w r pair = (schema_of w ≡ Ok pair.writer) × (schema_of r ≡ Ok pair.reader)

-- the first fault of a text
abbrev pub IsFirstFault : List ℕ → TextFault → Type 0
IsFirstFault text faults.NotUtf8 = ¬ (IsUtf8 text)
IsFirstFault text (faults.Schema e) = (e ≢ schema.NoMemory) × (schema_of text ≡ Err e)

-- why two texts make no pair, the first reason; nothing where memory ran out
abbrev pub IsOpenError : List ℕ → List ℕ → OpenError → Type 0
IsOpenError w r (errors.Writer fault) = IsFirstFault w fault
IsOpenError w r (errors.Reader fault) = IsFirstFault r fault × (W : List Node) × (schema_of w ≡ Ok W)
IsOpenError w r errors.ProgramTooLarge =
    (pair : Pair) × IsPairOfTexts w r pair × (program_of pair.writer pair.reader ≡ None)
IsOpenError w r errors.NoMemory = Unit {0}

-- the pair that two texts declare, or why they make none
abbrev pub Opens : List ℕ → List ℕ → Result Pair OpenError → Type 0
Opens w r (Ok pair) = IsPairOfTexts w r pair
Opens w r (Err e) = IsOpenError w r e

-- whether the reader that the second text declares is safe with the writer of the first
abbrev pub TellsSafety : List ℕ → List ℕ → Result Bool OpenError → Type 0
TellsSafety w r (Ok safe) = (pair : Pair) × IsPairOfTexts w r pair × (IsTrue safe ↔ IsSafe pair.writer pair.reader)
TellsSafety w r (Err e) = IsOpenError w r e

-- These numbers report that the texts' pair is open now; or why none is.
abbrev pub TellsOpening : List ℕ → List ℕ → Option Pair → ℕ → ℕ → Type 0
TellsOpening w r (Some pair) status fault = IsPairOfTexts w r pair × (status ≡ code_of statuses.Done) × (fault ≡ 0)
TellsOpening w r None status fault = (e : OpenError) × IsOpenError w r e × (status ≡ code_of (status_of e))
    × (fault ≡ fault_of e)

-- the numbers of an answer about safety
abbrev pub status_of_reading : Result Bool OpenError → Status
status_of_reading (Ok true) = statuses.Done
status_of_reading (Ok false) = statuses.CannotRead
status_of_reading (Err e) = status_of e

abbrev pub fault_of_reading : Result Bool OpenError → ℕ
fault_of_reading (Ok safe) = 0
fault_of_reading (Err e) = fault_of e

-- These numbers report whether the reader is safe with the writer, or why there is no pair.
abbrev pub TellsReading : List ℕ → List ℕ → ℕ → ℕ → Type 0
TellsReading w r status fault = (answer : Result Bool OpenError) × TellsSafety w r answer
    × (status ≡ code_of (status_of_reading answer)) × (fault ≡ fault_of_reading answer)
