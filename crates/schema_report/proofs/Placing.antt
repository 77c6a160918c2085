-- Where the fault of a line is.
use Rattle.std.proofs.Common.{◌≡◌, ℕ, true, false, List, Err, refl, subst}
use Rattle.std.specs.Str.{IsUtf8}
use Rattle.spec_schema.specs.declared.schema_error.SchemaError.{SchemaError}
use Rattle.spec_schema.specs.declared.schema_error.SchemaError.TheVariants.{NotJson}
use Rattle.schema_report.specs.Faults.{HasPlace, HasPlaceOf, has_place}
use Rattle.schema_report.specs.Reading.{schema_of_line}
use Rattle.schema_report.proofs.SchemaLines.{no_text}

pub no_place : (line : List ℕ) (error : SchemaError) (old : List ℕ) → has_place error ≡ false → HasPlaceOf line error old old
no_place line error old none = rw none refl

-- bytes that are no text have no place
pub no_text_place : (line : List ℕ) (error : SchemaError) (old : List ℕ) → ¬ (IsUtf8 line) → schema_of_line line ≡ Err error → HasPlaceOf line error old old
no_text_place line error old broken fault =
    let same : NotJson ≡ error = cc (no_text line broken, fault) in
    no_place line error old (subst (λ (e : SchemaError). has_place e ≡ false) same refl)

pub placed : (line : List ℕ) (error : SchemaError) (old new : List ℕ) → has_place error ≡ true → HasPlace line old new → HasPlaceOf line error old new
placed line error old new some place = rw some place
