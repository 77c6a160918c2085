use Rattle.std.proofs.Common.{◌≡◌, ◌++◌, List, ℕ, ap, arith, length, take, ◌∙◌, refl, sym}
use Rattle.std.proofs.lemmas.List.{length-drop}
use Rattle.http_server.specs.History.{History}
use Rattle.persistent_exchange.proofs.Keeping.{handed_holds}
use Rattle.persistent_exchange.proofs.Moving.{hands_some}
use Rattle.persistent_exchange.proofs.exchange.PersistentExchange.hand_some_on.Goals as goal

pub returns-in-Ok-clause-hands : goal.returns-in-Ok-clause-hands
returns-in-Ok-clause-hands c =
    let read = c.in-Ok.ensures.ok in
    rw (read.3) (hands_some _ c.args.self.now _ read.0 _ c.advance.new.self.items c.in-Ok.count c.self.view_is read.1
    (ap (take c.self.inside.seen) (sym c.as_slice.ensures) ∙ read.2) c.advance.ensures.items)

pub invariant_of-self : goal.invariant_of-self
invariant_of-self c =
    let read = c.in-Ok.ensures.ok in (
      omega (arith, c.self.invariant.0, ap (λ (xs : List ℕ). length xs) c.advance.ensures.items, length-drop c.in-Ok.count c.self.inside.held.items),
      c.self.invariant.1,
      λ some. ap (λ (h : History). h.pending) read.3 ∙ c.self.invariant.2 some,
      rw (read.3) (handed_holds c.self.inside.standing _ _ (hands_some _ _ _ read.0 _ c.advance.new.self.items c.in-Ok.count refl
          read.1 (ap (take c.self.inside.seen) (sym c.as_slice.ensures) ∙ read.2) c.advance.ensures.items) c.in-Ok.ensures.config
          refl c.self.invariant.3),
    )
