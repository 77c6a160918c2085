-- No call was made.
use Rattle.std.proofs.Common.{◌≡◌, ℕ, List, drop, ap, subst, sym, ◌∙◌}
use Rattle.spec_service.specs.Persistent.{Persistent}
use Rattle.persistent_exchange.specs.Standing.{Holds}
use Rattle.persistent_exchange.proofs.Keeping.{holds_alike}
use Rattle.persistent_exchange.proofs.Writing.{never_called}
use Rattle.persistent_exchange.proofs.exchange.PersistentExchange.advance_unanswered.Goals as goal

pub returns-clause-calls : goal.returns-clause-calls
returns-clause-calls c =
    subst (λ (p : Persistent). p.history.calls ≡ c.args.self.now.history.calls) (sym c.self-2.view_is)
    (never_called _ (λ s q r t x. x) _ _ _ _ c.advance.ensures.calls)

pub invariant_of-self : goal.invariant_of-self
invariant_of-self c =
    let standing = c.self.inside.standing in
    let old : Persistent = c.args.self.now in
    let new : Persistent = c.advance.new.self in
    let same = c.advance.ensures.same in (
      c.self-2.invariant.0,
      c.self-2.invariant.1,
      c.self-2.invariant.2,
      subst (Holds standing) (sym c.self-2.view_is)
          (holds_alike standing old new
          (record {
            config_is = same.0;
            scouted_is = same.1;
            received_is = c.advance.ensures.received;
            unseen_is = ap (λ (xs : List ℕ). drop new.seen xs) same.2 ∙ ap (λ (n : ℕ). drop n old.held) same.3;
            calls_are = never_called _ (λ s q r t x. x) _ _ _ _ c.advance.ensures.calls;
          })
          (subst (Holds standing) c.self.view_is c.self.invariant.3)),
    )
