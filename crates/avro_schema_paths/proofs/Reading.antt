-- A text reads as one value, so what is said of the value that a schema's text reads as is said of this one.
use Rattle.std.proofs.Common.{◌≡◌, Some, sym, ◌∙◌, subst}
use Rattle.serde_json.specs.Data.{Data}
use Rattle.spec_schema.specs.SchemaLaw.{DeclaresSchema}
use Rattle.avro_schema_paths.specs.Laws.{ReadValueIsDeclared}

pub value_is_declared : ReadValueIsDeclared
value_is_declared text nodes value r e =
    let both : Some r.value ≡ Some value = sym r.reads ∙ e in
    let same : r.value ≡ value = cc in
    subst (λ (d : Data). DeclaresSchema d nodes) same r.declares
