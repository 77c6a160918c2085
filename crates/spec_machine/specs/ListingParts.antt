-- What the words of a line say. All of this is this project's own.
use Rattle.std.specs.Prelude.{ℕ, ◌&&◌, ◌==◌, nat_lt, if◌then◌else◌, List, [], ◌∷◌, length, Option, Some, None, option_map, Result, Ok, Err}
use Rattle.std.specs.Str.{bytes_eq}
use Rattle.hex.specs.declared.error.FromHexError.{FromHexError}
use Rattle.hex.specs.Hex.{decode_of, encode_lower}
use Rattle.spec_avro.specs.declared.mismatch.Mismatch.{Mismatch}
use Rattle.spec_machine.specs.declared.entry.Entry.{Entry}
use Rattle.spec_machine.specs.declared.entry.Entry.TheVariants as entries
use Rattle.spec_machine.specs.declared.instr.Instr.{Instr}
use Rattle.spec_machine.specs.declared.operation.Shape.{Shape}
use Rattle.spec_machine.specs.declared.operation.Shape.TheVariants as shapes
use Rattle.spec_machine.specs.Operation.{instr_of, shape_of}
use Rattle.spec_machine.specs.ListingWords.{kind_named, number_in, operation_named}

infixl 10 ◌>>=◌
abbrev pub ◌>>=◌ : {A B : Type 0} → Option A → (A → Option B) → Option B
(Some x) >>= f = f x
None >>= f = None

-- a thing, where no word is left
abbrev pub at_end : {A : Type 0} → A → List (List ℕ) → Option A
at_end x [] = Some x
at_end x (word ∷ words) = None

-- a number, and the words after it
unfoldable pub first_number : List (List ℕ) → Option (ℕ × List (List ℕ))
first_number [] = None
first_number (word ∷ words) = do
  n ← number_in word
  Some (n, words)

-- a number, and a thing that the words after it say
abbrev pub Numbered : Type 0 → Type 0
Numbered A = Option (ℕ × A)

unfoldable pub numbered : {A : Type 0} → (List (List ℕ) → Option A) → List (List ℕ) → Numbered A
numbered thing words = do
  n ← first_number words
  x ← thing n.1
  Some (n.0, x)

-- ---- constants

-- the bytes whose lower-case hex a word is: at least one
abbrev pub spelled_so : List ℕ → Result (List ℕ) FromHexError → Option (List ℕ)
spelled_so word (Ok bytes) = if nat_lt 0 (length bytes) && bytes_eq (encode_lower bytes) word then Some bytes else None
spelled_so word (Err e) = None

unfoldable pub bytes_in : List ℕ → Option (List ℕ)
bytes_in word = spelled_so word (decode_of word)

unfoldable pub constant_in : List (List ℕ) → Option (List ℕ)
constant_in [] = None
constant_in (word ∷ words) = do
  bytes ← bytes_in word
  at_end bytes words

-- ---- maps and jump tables

-- `!` comes before the number of a miss
unfoldable pub entry_in : List ℕ → Option Entry
entry_in [] = None
entry_in (b ∷ rest) =
    if b == 33 then option_map entries.Miss (number_in rest) else option_map entries.Position (number_in (b ∷ rest))

-- what each word says
unfoldable pub each_in : {A : Type 0} → (List ℕ → Option A) → List (List ℕ) → Option (List A)
each_in read [] = Some []
each_in read (word ∷ words) = do
  x ← read word
  others ← each_in read words
  Some (x ∷ others)

-- ---- misses

unfoldable pub miss_in : List (List ℕ) → Option Mismatch
miss_in [] = None
miss_in (word ∷ words) = do
  kind ← kind_named word
  writer ← first_number words
  reader ← first_number writer.1
  at_end (record { kind = kind; writer_node = writer.0; reader_node = reader.0 }) reader.1

-- ---- instructions

-- the operand, or else 0, and the words after it
abbrev pub operand_in : Shape → List (List ℕ) → Option (ℕ × List (List ℕ))
operand_in shapes.Nothing words = Some (0, words)
operand_in shapes.Short words = first_number words
operand_in shapes.Long words = first_number words
operand_in shapes.Address words = first_number words

unfoldable pub instr_in : List (List ℕ) → Option Instr
instr_in [] = None
instr_in (word ∷ words) = do
  operation ← operation_named word
  n ← operand_in (shape_of operation) words
  at_end (instr_of operation n.0) n.1
