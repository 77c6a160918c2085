-- What is kept of the members says what the object has.
use Rattle.std.proofs.Common.{◌∙◌, sym, subst, string_bytes}
use Rattle.upstream_answers.specs.Content.{Tells}
use Rattle.upstream_answers.proofs.Texts.{schema_by_members}
use Rattle.upstream_answers.proofs.content.schema_of.Goals as goal

pub returns : goal.returns
returns c = λ d are.
    let avro = sym c.is_avro.ensures ∙ c.if-not-is_avro.false in
    let none = sym c.has_no_references.ensures ∙ c.if-not-has_no_references.false in
    subst (λ r. Tells string_bytes c.text_kept.result r) (schema_by_members d c.args.members are avro none)
    c.text_kept.ensures
