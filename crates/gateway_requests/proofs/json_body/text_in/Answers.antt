-- The text that was kept, where its type is Avro and it has no references.
use Rattle.std.proofs.Common.{string_bytes, subst, sym, ◌∙◌}
use Rattle.gateway_requests.proofs.Bodies.{text_by_members}
use Rattle.gateway_requests.specs.Steps.{Tells}
use Rattle.gateway_requests.proofs.json_body.text_in.Goals as goal

pub returns : goal.returns
returns c = λ d are.
    subst (λ r. Tells string_bytes c.text_kept.result r)
    (text_by_members d c.args.members are (sym c.is_avro.ensures ∙ c.if-not-is_avro.false) (sym c.has_no_references.ensures ∙ c.if-not-has_no_references.false))
    c.text_kept.ensures
