-- What words say: numbers, subjects, bytes. All of this is this project's own.
use Rattle.std.specs.Prelude.{ℕ, ◌^◌, ◌&&◌, nat_lt, if◌then◌else◌, List, [], ◌∷◌, ◌++◌, Option, Some, None, codes}
use Rattle.std.specs.Str.{bytes_eq, is_utf8}
use Rattle.std.specs.Str.Parse.{digits_value}
use Rattle.spec_machine.specs.ListingParts.{◌>>=◌, at_end, bytes_in}
use Rattle.spec_machine.specs.ListingWords.{is_numeral, words}

-- the words of a line, which has none where it is no text
unfoldable pub words_of_text : List ℕ → List (List ℕ)
words_of_text line = if is_utf8 line then words line else []

-- ---- words

-- the word that alone is left
unfoldable pub only_word : List (List ℕ) → Option (List ℕ)
only_word [] = None
only_word (word ∷ words) = at_end word words

-- an empty word is none
abbrev pub named : List ℕ → Option (List ℕ)
named [] = None
named (b ∷ word) = Some (b ∷ word)

unfoldable pub two_words : List (List ℕ) → Option (List ℕ × List ℕ)
two_words [] = None
two_words (word ∷ words) = do
  first ← named word
  last ← only_word words
  second ← named last
  Some (first, second)

-- the text that words are parted from
unfoldable pub joined : List (List ℕ) → List ℕ
joined [] = []
joined (word ∷ []) = word
joined (word ∷ next ∷ words) = word ++ 32 ∷ joined (next ∷ words)

-- all after a space, which may be nothing
unfoldable pub text_in : List (List ℕ) → Option (List ℕ)
text_in [] = None
text_in (word ∷ words) = Some (joined (word ∷ words))

unfoldable pub word_and_text : List (List ℕ) → Option (List ℕ × List ℕ)
word_and_text [] = None
word_and_text (word ∷ words) = do
  first ← named word
  text ← text_in words
  Some (first, text)

-- ---- numbers

-- a number below a limit, without leading zeros
unfoldable pub number_below : ℕ → List ℕ → Option ℕ
number_below limit word =
    if is_numeral word && nat_lt (digits_value 10 word) limit then Some (digits_value 10 word) else None

-- a number, and the words after it
unfoldable pub first_number : List (List ℕ) → Option (ℕ × List (List ℕ))
first_number [] = None
first_number (word ∷ words) = do
  n ← number_below (2 ^ 32) word
  Some (n, words)

unfoldable pub last_number : List (List ℕ) → Option ℕ
last_number words = do
  word ← only_word words
  number_below (2 ^ 32) word

unfoldable pub two_numbers : List (List ℕ) → Option (ℕ × ℕ)
two_numbers words = do
  m ← first_number words
  n ← last_number m.1
  Some (m.0, n)

-- how many rows
unfoldable pub last_rows : List (List ℕ) → Option ℕ
last_rows words = do
  word ← only_word words
  number_below (2 ^ 64) word

unfoldable pub number_and_rows : List (List ℕ) → Option (ℕ × ℕ)
number_and_rows words = do
  n ← first_number words
  rows ← last_rows n.1
  Some (n.0, rows)

-- ---- bytes

-- bytes in hexadecimal
unfoldable pub last_bytes : List (List ℕ) → Option (List ℕ)
last_bytes words = do
  word ← only_word words
  bytes_in word

-- ---- subjects

-- `*` is no subject
abbrev pub subject_in : List ℕ → Option (List ℕ)
subject_in word = if bytes_eq word (codes "*") then None else Some word
