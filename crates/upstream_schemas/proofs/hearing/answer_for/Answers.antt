-- The bytes received were heard for the question, and begin with the answer.
use Rattle.std.proofs.Common.{ℕ, List, ◌∙◌, subst}
use Rattle.spec_service.specs.UpstreamAnswer.{IsAnswer}
use Rattle.upstream_schemas.proofs.hearing.answer_for.Goals as goal

pub returns-in-Ok-parse_answer-clause-answer : goal.returns-in-Ok-parse_answer-clause-answer
returns-in-Ok-parse_answer-clause-answer g c = record {
  place = c.args.place.now;
  received = c.in-Ok.received.items;
  was_heard = subst (λ (q : List ℕ). g.U.Upstream.heard q c.in-Ok.received.items) (c.deref.ensures ∙ c.in_ok-question.ensures) c.in-Ok.ensures;
  is_answer = subst (λ (b : List ℕ). IsAnswer b c.in-Ok-parse_answer.answer.status c.in-Ok-parse_answer.answer.content.items) c.deref-in-Ok.ensures.value c.in-Ok-parse_answer.ensures.ok;
}

pub returns-clause-why : goal.returns-clause-why
returns-clause-why g c = c.fault_of.ensures c.args.id
