-- What is answered to a question about schemas. The lines are this project's own.
use Rattle.std.specs.Prelude.{◌≡◌, ◌&&◌, ℕ, Bool, true, false, List, [], codes, string_bytes, Vec, Some, Ok, Err, length}
use Rattle.std.specs.declared.alloc.Global.{Global}
use Rattle.serde_json.specs.Data.{Data}
use Rattle.serde_json.specs.Read.{read}
use Rattle.spec_avro.specs.Node.{Node}
use Rattle.spec_schema.specs.declared.schema_error.SchemaError.{SchemaError}
use Rattle.avro_schema_paths.specs.Adds.{ArePaths}
use Rattle.avro_schema_paths.specs.declared.step.Step.{Step}
use Rattle.schema_report.specs.Checking.{IsChecked}
use Rattle.schema_report.specs.Faults.{IsBadSchema}
use Rattle.schema_report.specs.Listing.{node_lines}
use Rattle.schema_report.specs.Reading.{schema_of_line}
use Rattle.schema_report.specs.declared.asking.Level.{Level}
use Rattle.schema_report.specs.declared.asking.Level.TheVariants.{Backward, Forward, Full}
use Rattle.schema_report.specs.declared.checking.Side.{Side}
use Rattle.schema_report.specs.declared.refusal.Refusal.{Refusal}
use Rattle.schema_report.specs.declared.refusal.Refusal.TheVariants.{NoMemory, BadSchema}
use Rattle.schema_report.specs.declared.report.Report.{Report}
use Rattle.schema_report.specs.declared.report.Verdict.{Verdict}
use Rattle.schema_report.specs.declared.report.Verdict.TheVariants.{Yes, No}

-- the report of a refusal of a line that is not for want of memory
abbrev pub IsRefused : Refusal → List ℕ → Report → Type 0
IsRefused NoMemory line report = ⊥
IsRefused (BadSchema number error) line report =
    IsBadSchema number line error (string_bytes report.text) × (report.verdict ≡ No)

-- a line is a schema of these nodes, and these are their paths in its JSON value
pub record IsOfLine (line : List ℕ) (nodes : List Node) (paths : List (Vec Step Global)) : Type 0 where
  pub schema : schema_of_line line ≡ Ok nodes
  pub value : Data
  pub reads : read line ≡ Some value
  pub are : ArePaths nodes value (length nodes) paths

-- the nodes of a line, or its first fault
pub data AnswersNodes (line : List ℕ) : List ℕ → Verdict → Type 0 where
  listed : (nodes : List Node) (paths : List (Vec Step Global)) → IsOfLine line nodes paths
      → AnswersNodes line (node_lines nodes 0 paths) Yes
  refused : (error : SchemaError) (text : List ℕ) → schema_of_line line ≡ Err error
      → IsBadSchema 1 line error text → AnswersNodes line text No

-- the lines of the bad pairs were added, by which of the schemas reads
abbrev pub AreChecked : Level → Side → Side → List ℕ → List ℕ → Bool → Type 0
AreChecked Backward first second old new is_safe = IsChecked [] first second old new is_safe
AreChecked Forward first second old new is_safe = IsChecked [] second first old new is_safe
AreChecked Full first second old new is_safe =
    (mid : List ℕ) × (backward : Bool) × (forward : Bool)
    × IsChecked (codes "BACKWARD ") first second old mid backward
    × IsChecked (codes "FORWARD ") second first mid new forward × (is_safe ≡ (backward && forward))

-- the one word for none, or their lines
abbrev pub compatible_or : Bool → List ℕ → List ℕ
compatible_or true lines = codes "compatible\n"
compatible_or false lines = lines

abbrev pub verdict_of : Bool → Verdict
verdict_of true = Yes
verdict_of false = No

-- a side of a check is the schema of a line
pub record IsSideOf (line : List ℕ) (side : Side) : Type 0 where
  pub of : IsOfLine line side.nodes.now side.paths.now

-- the bad pairs of two lines, or the first fault of a line, of the first line before the second
pub data AnswersCheck (level : Level) (first second : List ℕ) : List ℕ → Verdict → Type 0 where
  checked : (a b : Side) (lines : List ℕ) (is_safe : Bool) → IsSideOf first a → IsSideOf second b
      → AreChecked level a b [] lines is_safe
      → AnswersCheck level first second (compatible_or is_safe lines) (verdict_of is_safe)
  first_refused : (error : SchemaError) (text : List ℕ) → schema_of_line first ≡ Err error
      → IsBadSchema 1 first error text → AnswersCheck level first second text No
  second_refused : (nodes : List Node) (error : SchemaError) (text : List ℕ) → schema_of_line first ≡ Ok nodes
      → schema_of_line second ≡ Err error → IsBadSchema 2 second error text → AnswersCheck level first second text No
