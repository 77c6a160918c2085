-- Parts of a text between separators, numbers, and words that name something. All of this is this project's own.
use Rattle.std.specs.Prelude.{ℕ, ◌^◌, ◌-◌, min, Bool, false, not, ◌&&◌, ◌||◌, ◌==◌, if◌then◌else◌, List, [], ◌∷◌, length, Option, Some, None, find}
use Rattle.std.specs.List.{list_all}
use Rattle.std.specs.Char.{is_ascii_digit}
use Rattle.std.specs.Str.{bytes_eq}
use Rattle.std.specs.Str.Parse.{digits_value}
use Rattle.spec_avro.specs.MismatchKind as kinds
use Rattle.spec_avro.specs.declared.mismatch.MismatchKind.{MismatchKind}
use Rattle.spec_machine.specs.declared.operation.Operation.{Operation}
use Rattle.spec_machine.specs.Operation.{name_of}
use Rattle.spec_machine.specs.declared.operation.TheConstants.{OPERATIONS}
use Rattle.spec_machine.specs.declared.miss_kinds.TheConstants.{KINDS}

-- ---- parts

-- a byte at the front of the first part
unfoldable pub in_front : ℕ → List (List ℕ) → List (List ℕ)
in_front b [] = (b ∷ []) ∷ []
in_front b (part ∷ later) = (b ∷ part) ∷ later

-- the parts before, between and after the separators: one more than there are separators
unfoldable pub parts : ℕ → List ℕ → List (List ℕ)
parts s [] = [] ∷ []
parts s (b ∷ rest) = if b == s then [] ∷ parts s rest else in_front b (parts s rest)

-- the words of a line
abbrev pub words : List ℕ → List (List ℕ)
words line = parts 32 line

-- the words after a space, or none where nothing is left
unfoldable pub later : List ℕ → List (List ℕ)
later [] = []
later (space ∷ rest) = words rest

-- ---- numbers

-- what every greater number is read as: no program names anything with a number so great
abbrev pub most_number : ℕ
most_number = 2 ^ 32 - 1

-- digits, of which the first is no zero unless it is the only one
abbrev pub is_numeral : List ℕ → Bool
is_numeral [] = false
is_numeral (d ∷ ds) = list_all is_ascii_digit (d ∷ ds) && (not (d == 48) || length ds == 0)

abbrev pub value_of : List ℕ → ℕ
value_of digits = min most_number (digits_value 10 digits)

unfoldable pub number_in : List ℕ → Option ℕ
number_in word = if is_numeral word then Some (value_of word) else None

-- ---- names

unfoldable pub kind_named : List ℕ → Option MismatchKind
kind_named word = find (λ k. bytes_eq word (kinds.name_of k)) KINDS

unfoldable pub operation_named : List ℕ → Option Operation
operation_named word = find (λ o. bytes_eq word (name_of o)) OPERATIONS
