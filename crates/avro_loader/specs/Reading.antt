-- Reading an image from its first byte on, with the first fault that is met. All of this is this project's own.
use Rattle.std.specs.Prelude.{◌≡◌, ℕ, zero, suc, List, [], ◌∷◌, length, take, drop, Result, Ok, Err, Some, None, Option, ◌-◌, ◌==◌, if◌then◌else◌, nat_lt}
use Rattle.std.specs.Int.{w16, w32}
use Rattle.spec_avro.specs.declared.mismatch.Mismatch.{Mismatch}
use Rattle.spec_avro.specs.declared.mismatch.MismatchKind.{MismatchKind}
use Rattle.spec_avro.specs.declared.mismatch.MismatchKind.TheVariants as kinds
use Rattle.spec_machine.specs.declared.entry.Entry.{Entry}
use Rattle.spec_machine.specs.declared.entry.Entry.TheVariants as entries
use Rattle.spec_machine.specs.declared.instr.Instr.{Instr}
use Rattle.spec_machine.specs.declared.limits.TheConstants.{MOST_CONSTANT_BYTES, MOST_TABLES}
use Rattle.spec_machine.specs.Operation.{at_code, instr_of, shape_of}
use Rattle.avro_loader.specs.ImageReading.{◌>>=◌, Read, place, number_at, operand_at}
use Rattle.spec_machine.specs.ImageSpelling.{most_instrs}
use Rattle.avro_loader.specs.declared.image_fault.ImageFault.{ImageFault}
use Rattle.avro_loader.specs.declared.image_fault.ImageFault.TheVariants.{Truncated, BadByte, TooLarge, NoCode}
use Rattle.avro_loader.specs.declared.version.Format.{Format}
use Rattle.avro_loader.specs.declared.fault.LoadError.{LoadError}
use Rattle.avro_loader.specs.declared.fault.LoadError.TheVariants as errors

-- What a function returned, seen by a view, is what reading gives, unless memory ran out.
abbrev pub Fails : {Y : Type 0} → LoadError → Result Y ImageFault → Type 0
Fails errors.NoMemory read = Unit {0}
Fails (errors.Fault f) read = read ≡ Err f

abbrev pub Gives : {X Y : Type 0} → (X → Y) → Result X LoadError → Result Y ImageFault → Type 0
Gives view (Ok x) read = read ≡ Ok (view x)
Gives view (Err e) read = Fails e read

-- ---- things

-- a byte that has a meaning
abbrev pub known : {A : Type 0} → ℕ → Option A → Result A ImageFault
known at (Some x) = Ok x
known at None = Err (BadByte at)

unfoldable pub entry_at : Format → List ℕ → Read Entry
entry_at f [] = Err Truncated
entry_at f (zero ∷ rest) = do
  i ← number_at w16 rest
  Ok (entries.Position i.0, i.1)
entry_at f (suc zero ∷ rest) = do
  m ← number_at w16 rest
  Ok (entries.Miss m.0, m.1)
entry_at f (suc (suc b) ∷ rest) = Err (BadByte (place f (suc (suc b) ∷ rest)))

abbrev pub kind_at : ℕ → Option MismatchKind
kind_at (suc zero) = Some kinds.NoMatch
kind_at (suc (suc zero)) = Some kinds.NoBranch
kind_at (suc (suc (suc zero))) = Some kinds.NoSymbol
kind_at (suc (suc (suc (suc zero)))) = Some kinds.NoDefault
kind_at (suc (suc (suc (suc (suc zero))))) = Some kinds.BytesNotText
kind_at _ = None

unfoldable pub miss_at : Format → List ℕ → Read Mismatch
miss_at f [] = Err Truncated
miss_at f (b ∷ rest) = do
  kind ← known (place f (b ∷ rest)) (kind_at b)
  writer ← number_at w16 rest
  reader ← number_at w16 writer.1
  Ok (record { kind = kind; writer_node = writer.0; reader_node = reader.0 }, reader.1)

unfoldable pub instr_at : Format → List ℕ → Read Instr
instr_at f [] = Err Truncated
instr_at f (b ∷ rest) = do
  operation ← known (place f (b ∷ rest)) (at_code b)
  n ← operand_at f (shape_of operation) rest
  Ok (instr_of operation n.0, n.1)

-- ---- sections

-- a count within its limit
unfoldable pub count_at : Format → ℕ → List ℕ → Read ℕ
count_at f most bytes = do
  n ← number_at w32 bytes
  if nat_lt most n.0 then Err (TooLarge (place f bytes)) else Ok n

-- n things
unfoldable pub things_at : {A : Type 0} → (List ℕ → Read A) → ℕ → List ℕ → Read (List A)
things_at thing zero bytes = Ok ([], bytes)
things_at thing (suc n) bytes = do
  first ← thing bytes
  others ← things_at thing n first.1
  Ok (first.0 ∷ others.0, others.1)

unfoldable pub section_at : {A : Type 0} → Format → ℕ → (List ℕ → Read A) → List ℕ → Read (List A)
section_at f most thing bytes = do
  n ← count_at f most bytes
  things_at thing n.0 n.1

-- a constant of at least one byte and at most `room` bytes
unfoldable pub constant_at : Format → ℕ → List ℕ → Read (List ℕ)
constant_at f room bytes = do
  n ← number_at w32 bytes
  if n.0 == 0 then Err (BadByte (place f bytes))
      else if nat_lt room n.0 then Err (TooLarge (place f bytes))
      else if nat_lt (length n.1) n.0 then Err Truncated
      else Ok (take n.0 n.1, drop n.0 n.1)

-- n constants, with at most `room` bytes together
unfoldable pub constants_at : Format → ℕ → ℕ → List ℕ → Read (List (List ℕ))
constants_at f room zero bytes = Ok ([], bytes)
constants_at f room (suc n) bytes = do
  first ← constant_at f room bytes
  others ← constants_at f (room - length first.0) n first.1
  Ok (first.0 ∷ others.0, others.1)

unfoldable pub constants_section_at : Format → List ℕ → Read (List (List ℕ))
constants_section_at f bytes = do
  n ← count_at f MOST_TABLES bytes
  constants_at f MOST_CONSTANT_BYTES n.0 n.1

unfoldable pub code_at : Format → List ℕ → Read (List Instr)
code_at f bytes = do
  n ← count_at f (most_instrs f.version) bytes
  if n.0 == 0 then Err NoCode else things_at (instr_at f) n.0 n.1
