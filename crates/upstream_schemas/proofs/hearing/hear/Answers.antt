-- The text that the upstream answered.
use Rattle.std.proofs.Common.{◌≡◌, ℕ, List, Ok, subst, string_bytes}
use Rattle.spec_service.specs.UpstreamContent.{schema_text}
use Rattle.spec_service.specs.UpstreamNaming.{WasAnswered, answered}
use Rattle.upstream_schemas.proofs.hearing.hear.Goals as goal

pub returns-in-Ok-clause-text : goal.returns-in-Ok-clause-text
returns-in-Ok-clause-text g c =
    let answer = c.in_ok-answer.answer in
    let P : ℕ → Type 0 = λ status. WasAnswered g.U.Upstream.heard g.U.Upstream.kept c.args.id status answer.content.items in
    let Q : List ℕ → Type 0 = λ content. schema_text content ≡ Ok (string_bytes c.in-Ok.text) in
    answered {content = answer.content.items} (subst P c.if-answer-ne-OK.false c.in_ok-answer.ensures.answer) (subst Q c.deref.ensures.value c.in-Ok.ensures.text)
