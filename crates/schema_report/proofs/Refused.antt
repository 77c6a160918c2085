-- The reports of lines that are no schemas.
use Rattle.std.proofs.Common.{◌≡◌, ◌≢◌, ℕ, List, string_bytes, Ok, Err, sym, subst}
use Rattle.spec_avro.specs.Node.{Node}
use Rattle.spec_schema.specs.declared.schema_error.SchemaError.{SchemaError}
use Rattle.schema_report.specs.Reading.{IsBadLine, IsOfText, schema_of_line}
use Rattle.schema_report.specs.Reports.{AnswersCheck, first_refused, second_refused, AnswersNodes, refused, IsRefused}
use Rattle.schema_report.specs.Faults.{IsBadSchema}
use Rattle.schema_report.specs.declared.asking.Level.{Level}
use Rattle.schema_report.specs.declared.refusal.Refusal.{Refusal}
use Rattle.schema_report.specs.declared.refusal.Refusal.TheVariants.{NoMemory, BadSchema}
use Rattle.schema_report.specs.declared.report.Report.{Report}
use Rattle.schema_report.specs.declared.report.Verdict.{Verdict}
use Rattle.schema_report.specs.declared.report.Verdict.TheVariants.{No}

-- a bad line's fault, and the report of it
pub record Refused (line : List ℕ) (number : ℕ) (report : Report) : Type 0 where
  pub error : SchemaError
  pub fault : schema_of_line line ≡ Err error
  pub text : IsBadSchema number line error (string_bytes report.text)
  pub verdict : report.verdict ≡ No

pub of_text : (line : List ℕ) (number : ℕ) (r : Refusal) → (r ≢ NoMemory → IsBadLine line number r) → IsOfText r line
of_text line number NoMemory bad = tt
of_text line number (BadSchema n e) bad =
    let found = bad (λ never. cc never) in
    let same_error : e ≡ found.error = cc found.refused in
    rw same_error found.fault

pub is_refused : (line : List ℕ) (number : ℕ) (r : Refusal) → (r ≢ NoMemory → IsBadLine line number r) → (report : Report) → IsRefused r line report
    → Refused line number report
is_refused line number NoMemory bad report is = absurd is
is_refused line number (BadSchema n e) bad report is =
    let found = bad (λ never. cc never) in
    let same_number : n ≡ number = cc found.refused in
    let same_error : e ≡ found.error = cc found.refused in
    record {
      error = e;
      fault = rw same_error found.fault;
      text = subst (λ (k : ℕ). IsBadSchema k line e (string_bytes report.text)) same_number is.0;
      verdict = is.1;
    }

pub refused_nodes : (line : List ℕ) (r : Refusal) → (r ≢ NoMemory → IsBadLine line 1 r) → (report : Report) → IsRefused r line report
    → AnswersNodes line (string_bytes report.text) report.verdict
refused_nodes line r bad report is =
    let found = is_refused line 1 r bad report is in
    subst (λ (v : Verdict). AnswersNodes line (string_bytes report.text) v) (sym found.verdict) (refused found.error _ found.fault found.text)

pub refused_first : (level : Level) (first second : List ℕ) (r : Refusal) → (r ≢ NoMemory → IsBadLine first 1 r) → (report : Report) → IsRefused r first report
    → AnswersCheck level first second (string_bytes report.text) report.verdict
refused_first level first second r bad report is =
    let found = is_refused first 1 r bad report is in
    subst (λ (v : Verdict). AnswersCheck level first second (string_bytes report.text) v) (sym found.verdict) (first_refused found.error _ found.fault found.text)

pub refused_second : (level : Level) (first second : List ℕ) (nodes : List Node) (r : Refusal) → schema_of_line first ≡ Ok nodes → (r ≢ NoMemory → IsBadLine second 2 r)
    → (report : Report) → IsRefused r second report → AnswersCheck level first second (string_bytes report.text) report.verdict
refused_second level first second nodes r schema bad report is =
    let found = is_refused second 2 r bad report is in
    subst (λ (v : Verdict). AnswersCheck level first second (string_bytes report.text) v) (sym found.verdict)
    (second_refused nodes found.error _ schema found.fault found.text)
