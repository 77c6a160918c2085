-- The request that was asked next is still the next one, once its bytes were handed on.
use Rattle.std.proofs.Common.{List, [], ◌∷◌, ◌++◌, ap, subst, subst₂, sym, ◌∙◌}
use Rattle.http_server.specs.Exchange.{Call}
use Rattle.spec_service.specs.StreamAnswering.{AnswersNext, IsNext}
use Rattle.spec_service.specs.Persistent.{Persistent}
use Rattle.spec_service.specs.Preparing.{Answer}
use Rattle.persistent_exchange.specs.Preparing.{AnswerOnce}
use Rattle.persistent_exchange.proofs.Keeping.{next_handed}
use Rattle.persistent_exchange.proofs.stream.RequestStream.answer.Goals as goal

pub returns-clause-answered : goal.returns-clause-answered
returns-clause-answered c =
    subst₂ (λ (a : Answer) (calls : List Call). AnswersNext a calls c.answer.new.self.history.calls)
    (ap (λ (p : AnswerOnce). p.answer) c.in_ok-prepared.ensures)
    (c.hand_on.ensures.hands.calls_are ∙ ap (λ (p : Persistent). p.history.calls) c.self.view_is) c.answer.ensures.answered

pub returns-clause-own : goal.returns-clause-own
returns-clause-own c asked next call calls_are not =
    let hands = c.hand_on.ensures.hands in
    c.answer.ensures.own asked
    (next_handed _ c.hand_on.new.self asked hands c.hand_on.ensures.config
    (subst (λ (p : Persistent). IsNext p asked) (sym c.self.view_is) next)) call
    (calls_are ∙ ap (λ (calls : List Call). calls ++ call ∷ [])
    (sym (hands.calls_are ∙ ap (λ (p : Persistent). p.history.calls) c.self.view_is))) not
