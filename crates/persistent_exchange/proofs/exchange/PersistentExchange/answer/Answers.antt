-- The answer is given to one call at most, and that is for the request that was asked next.
use Rattle.std.proofs.Common.{ℕ, List, drop, ap, subst, sym, ◌∙◌}
use Rattle.spec_service.specs.StreamAnswering.{AnswersNext, CallsFor}
use Rattle.spec_service.specs.Persistent.{Persistent}
use Rattle.persistent_exchange.specs.Standing.{Holds}
use Rattle.persistent_exchange.proofs.Answering.{answers_once, calls_for_next}
use Rattle.persistent_exchange.proofs.Keeping.{holds_given}
use Rattle.persistent_exchange.proofs.exchange.PersistentExchange.answer.Goals as goal

pub invariant_of-self : goal.invariant_of-self
invariant_of-self c =
    let old : Persistent = c.args.self.now in
    let new : Persistent = c.advance.new.self in
    let same = c.advance.ensures.same in
    let given = c.with_answer-self-inside.ensures in (
      c.self-2.invariant.0,
      c.self-2.invariant.1,
      c.self-2.invariant.2,
      subst (Holds c.with_answer-self-inside.result) (sym c.self-2.view_is)
          (holds_given c.self.inside.standing c.with_answer-self-inside.result old new c.is_used.result given.even given.not_whole given.not_due
          (λ used. (answers_once _ _ _ _ c.requires c.advance.ensures.calls).1 (sym c.is_used.ensures ∙ used)) same.0 same.1
          c.advance.ensures.received
          (ap (λ (xs : List ℕ). drop new.seen xs) same.2 ∙ ap (λ (n : ℕ). drop n old.held) same.3)
          (subst (Holds c.self.inside.standing) c.self.view_is c.self.invariant.3)),
    )

pub returns-clause-answered : goal.returns-clause-answered
returns-clause-answered c =
    subst (λ (p : Persistent). AnswersNext c.args.prepared.now.answer c.args.self.now.history.calls p.history.calls)
    (sym c.self-2.view_is) (answers_once _ _ _ _ c.requires c.advance.ensures.calls).0

pub returns-clause-own : goal.returns-clause-own
returns-clause-own c asked next =
    subst (λ (p : Persistent). CallsFor asked c.args.self.now p) (sym c.self-2.view_is)
    (calls_for_next c.args.self.now c.advance.new.self c.advance.ensures.same.0 c.advance.ensures.received
    c.advance.ensures.served asked next)
