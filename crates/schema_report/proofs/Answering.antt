-- The reports of lines that are schemas.
use Rattle.std.proofs.Common.{◌≡◌, ℕ, Bool, List, [], string_bytes, Vec, sym, subst}
use Rattle.std.specs.declared.alloc.Global.{Global}
use Rattle.spec_avro.specs.Node.{Node}
use Rattle.avro_schema_paths.specs.declared.step.Step.{Step}
use Rattle.schema_report.specs.Reports.{AnswersCheck, checked, AreChecked, IsOfLine, IsSideOf, compatible_or, verdict_of}
use Rattle.schema_report.specs.declared.asking.Level.{Level}
use Rattle.schema_report.specs.declared.checking.Side.{Side}
use Rattle.schema_report.specs.declared.report.Report.{Report}
use Rattle.schema_report.specs.declared.report.Verdict.{Verdict}

pub side_is : (line : List ℕ) (side : Side) (nodes : List Node) (paths : List (Vec Step Global)) → side.nodes.now ≡ nodes → side.paths.now ≡ paths
    → IsOfLine line nodes paths → IsSideOf line side
side_is line side nodes paths e f is = record { of = rw (e, f) is }

pub is_checked : (level : Level) (first second : List ℕ) (a b : Side) (old lines : List ℕ) (is_safe : Bool) → old ≡ [] → IsSideOf first a → IsSideOf second b
    → AreChecked level a b old lines is_safe → (report : Report) → (string_bytes report.text ≡ compatible_or is_safe lines) × (report.verdict ≡ verdict_of is_safe)
    → AnswersCheck level first second (string_bytes report.text) report.verdict
is_checked level first second a b old lines is_safe none one two are report is =
    subst (λ (t : List ℕ). AnswersCheck level first second t report.verdict) (sym is.0)
    (subst (λ (v : Verdict). AnswersCheck level first second (compatible_or is_safe lines) v) (sym is.1)
    (checked a b lines is_safe one two (subst (λ (o : List ℕ). AreChecked level a b o lines is_safe) none are)))
