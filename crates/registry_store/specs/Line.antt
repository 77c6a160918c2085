-- A stored command as a line of text, without its newline. This project's own format:
--     register ID SUBJECT TEXT CHECK
--     level SUBJECT LEVEL CHECK
use Rattle.std.specs.Prelude.{◌≡◌, ◌≢◌, ℕ, List, ◌∷◌, ◌++◌, Option, Some, None, codes, decimal, take}
use Rattle.std.specs.List.{AllByRecursion}
use Rattle.hex.specs.Hex.{encode_lower}
use Rattle.percent_encoding.specs.Percent.{percent_encode}
use Rattle.sha2.specs.Sha256.{sha256}
use Rattle.registry_store.specs.Stored.{Stored, Registered, LevelSet}
use Rattle.registry_store.specs.declared.format.TheConstants.{SPACE, NEWLINE, WORD_ESCAPES, TEXT_ESCAPES}

-- a field without a space: control characters, the space, `%`, `*` and bytes from 128 on are written as `%XX`
abbrev pub word : List ℕ → List ℕ
word bytes = percent_encode WORD_ESCAPES bytes

-- the last field before the check, which may have spaces: control characters, `%` and bytes from 128 on are `%XX`
abbrev pub readable : List ℕ → List ℕ
readable bytes = percent_encode TEXT_ESCAPES bytes

-- `*` is the global level's subject
abbrev pub subject_word : Option (List ℕ) → List ℕ
subject_word None = codes "*"
subject_word (Some subject) = word subject

-- the line before its check
abbrev pub body_of : Stored → List ℕ
body_of (Registered id subject text) =
    codes "register" ++ SPACE ∷ (decimal id ++ SPACE ∷ (word subject ++ SPACE ∷ readable text))
body_of (LevelSet subject level) = codes "level" ++ SPACE ∷ (subject_word subject ++ SPACE ∷ word level)

-- the first 8 bytes of the body's SHA-256, as 16 digits in lower case
unfoldable pub check_of : List ℕ → List ℕ
check_of body = encode_lower (take 8 (sha256 body))

-- a body with its check
abbrev pub checked : List ℕ → List ℕ
checked body = body ++ SPACE ∷ check_of body

-- the line ends with the check of what is before it
abbrev pub HasCheck : List ℕ → Type 0
HasCheck line = (body : List ℕ) × (line ≡ checked body)

-- the line of a command
abbrev pub line_of : Stored → List ℕ
line_of stored = checked (body_of stored)

-- no newline is within it
abbrev pub IsOneLine : List ℕ → Type 0
IsOneLine line = AllByRecursion (λ b. b ≢ NEWLINE) line
