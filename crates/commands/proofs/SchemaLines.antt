-- What a schema line declares.
use Rattle.std.proofs.Common.{◌≡◌, ◌≢◌, ℕ, Bool, true, false, List, Result, Ok, Err, IfOk, IfErr, refl, ◌∙◌, sym, ap}
use Rattle.std.specs.Str.{IsUtf8, is_utf8}
use Rattle.std.proofs.lemmas.Str.{IsUtf8-from_is_utf8, is_utf8-from_IsUtf8}
use Rattle.spec_schema.specs.Schema.{Declaration, schema_of}
use Rattle.avro_schema.specs.Schema.{Parses}
use Rattle.spec_schema.specs.declared.schema_error.SchemaError.{SchemaError}
use Rattle.spec_schema.specs.declared.schema_error.SchemaError.TheVariants.{NoMemory, NotJson}
use Rattle.spec_lines.specs.Schemas.{schema_of_line}

schema_of_text : (line : List ℕ) → IsUtf8 line → schema_of_line line ≡ schema_of line
schema_of_text line text = rw (is_utf8-from_IsUtf8 line text) refl

schema_of_no_text : (line : List ℕ) (b : Bool) → is_utf8 line ≡ b → (b ≡ true → ⊥) → schema_of_line line ≡ Err NotJson
schema_of_no_text line true e fails = absurd (fails refl)
schema_of_no_text line false e fails = rw e refl

-- bytes that are no UTF-8 are no JSON
pub no_text : (line : List ℕ) → ¬ (IsUtf8 line) → schema_of_line line ≡ Err NotJson
no_text line broken = schema_of_no_text line (is_utf8 line) refl (λ e. broken (IsUtf8-from_is_utf8 line e))

-- what a parser answers for a text is so for its line
pub parsed : (r : Result Declaration SchemaError) (text line : List ℕ) → text ≡ line → IsUtf8 line → Parses r text
    → IfOk r (λ s. schema_of_line line ≡ Ok s.nodes)
parsed (Ok s) text line same utf8 p = schema_of_text line utf8 ∙ ap schema_of (sym same) ∙ p.0
parsed (Err e) text line same utf8 p = tt

pub refused : (r : Result Declaration SchemaError) (text line : List ℕ) → text ≡ line → IsUtf8 line → Parses r text
    → IfErr r (λ e. e ≢ NoMemory → schema_of_line line ≡ Err e)
refused (Ok s) text line same utf8 p = tt
refused (Err e) text line same utf8 p = λ kept. schema_of_text line utf8 ∙ ap schema_of (sym same) ∙ p kept
