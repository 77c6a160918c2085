use Rattle.std.proofs.Common.{ℕ, ◌-◌, List, ap, arith, drop, length, length-take, refl, sym}
use Rattle.std.proofs.lemmas.List.{drop-drop, length-drop}
use Rattle.persistent_exchange.proofs.Keeping.{holds_seen}
use Rattle.persistent_exchange.proofs.Moving.{looks, seen_in}
use Rattle.persistent_exchange.proofs.exchange.PersistentExchange.look.Goals as goal

pub returns-clause-found : goal.returns-clause-found
returns-clause-found c =
    looks _ c.args.self.now c.as_slice.result.now _ _ _ c.self.view_is c.as_slice.ensures c.in_ok-step.ensures.found

pub invariant_of-self-2 : goal.invariant_of-self-2
invariant_of-self-2 c =
    let slice = c.as_slice.result.now in
    let seen = c.self.inside.seen in (
      omega (arith, c.self.invariant.0, c.in_ok-step.ensures.within, ap (λ (xs : List ℕ). length xs) c.as_slice.ensures, length-take (length slice - seen) (drop seen slice), length-drop seen slice),
      c.self.invariant.1,
      c.self.invariant.2,
      holds_seen _ _ c.in_ok-step.step.consumed c.in_ok-step.step.sighting
          (seen_in _ slice _ seen _ _ _ c.as_slice.ensures c.in_ok-step.ensures.found) refl refl
          (sym (drop-drop c.in_ok-step.step.consumed seen c.self.inside.held.items)) refl c.self.inside.standing
          c.with_sighting-self-inside.result c.with_sighting-self-inside.ensures.whole c.with_sighting-self-inside.ensures.even
          c.with_sighting-self-inside.ensures.due c.self.invariant.3,
    )
