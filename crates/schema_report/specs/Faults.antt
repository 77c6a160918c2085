-- The line of a schema that is none. Its words are this project's own.
use Rattle.std.specs.Prelude.{◌≡◌, ℕ, Bool, true, false, nat_le, if◌then◌else◌, List, [], ◌++◌, length, codes, Option, Some, None, option_and_then}
use Rattle.std.specs.Fmt.{decimal}
use Rattle.json.specs.Print.{escape}
use Rattle.serde_json.specs.Data.{Data}
use Rattle.serde_json.specs.Read.{read}
use Rattle.spec_avro.specs.declared.limits.TheConstants.{MOST_TEXT}
use Rattle.spec_schema.specs.SchemaError.{name_of}
use Rattle.spec_schema.specs.declared.schema_error.SchemaError.{SchemaError}
use Rattle.spec_schema.specs.declared.schema_error.SchemaError.TheVariants.{NotJson, NoMemory}
use Rattle.avro_schema_faults.specs.Places.{IsFaultOf}
use Rattle.avro_schema_faults.specs.Words.{word_at}
use Rattle.avro_schema_faults.specs.declared.faults.Fault.{Fault}
use Rattle.avro_schema_paths.specs.Places.{Path}
use Rattle.schema_report.specs.Listing.{path_text}

-- the number of the line, and its first fault
abbrev pub bad_schema : ℕ → SchemaError → List ℕ
bad_schema number error = codes "bad schema " ++ decimal number ++ codes " " ++ name_of error

-- the fault of a line that is no JSON is at no value of it
abbrev pub has_place : SchemaError → Bool
has_place NotJson = false
has_place NoMemory = false
has_place _ = true

abbrev pub place_text : Path → List ℕ
place_text path = codes " at " ++ path_text path

-- the JSON value of a line; none where it is too long for a schema or no JSON
abbrev pub value_of : List ℕ → Option Data
value_of line = if nat_le (length line) MOST_TEXT then read line else None

-- a word as JSON writes it within quotes, after a colon and a space
abbrev pub word_text : Option (List ℕ) → List ℕ
word_text None = []
word_text (Some word) = codes ": " ++ escape word

-- the word in question at the end of a path in the line's JSON value
abbrev pub word_of : List ℕ → Path → List ℕ
word_of line path = word_text (option_and_then (word_at path) (value_of line))

-- The place of a line's first fault was added to a text, and after it the word in question there.
pub record HasPlace (line old new : List ℕ) : Type 0 where
  pub fault : Fault
  pub is : IsFaultOf line fault
  pub text : new ≡ old ++ (place_text fault.path.items ++ word_of line fault.path.items)

-- nothing was added where it has no place
abbrev pub HasPlaceOf : List ℕ → SchemaError → List ℕ → List ℕ → Type 0
HasPlaceOf line error old new = by_place (has_place error)
  where
    by_place : Bool → Type 0
    by_place true = HasPlace line old new
    by_place false = new ≡ old

-- the line of a schema that is none
pub record IsBadSchema (number : ℕ) (line : List ℕ) (error : SchemaError) (text : List ℕ) : Type 0 where
  pub before : List ℕ
  pub place : HasPlaceOf line error (bad_schema number error) before
  pub whole : text ≡ before ++ codes "\n"
