-- What came follows what was held.
use Rattle.std.proofs.Common.{ℕ, List, ◌++◌, ◌∙◌, ap, arith, length, length-append}
use Rattle.persistent_exchange.proofs.Keeping.{holds_appended}
use Rattle.persistent_exchange.proofs.exchange.PersistentExchange.receive.Goals as goal

pub invariant_of-self-2 : goal.invariant_of-self-2
invariant_of-self-2 g c =
    let read = c.in_ok-count.ensures.ok in
    let held = read.2 ∙ ap (λ (xs : List ℕ). xs ++ read.0) c.in_ok-reserve.ensures.items in (
      omega (arith, c.self.invariant.0, ap (λ (xs : List ℕ). length xs) held, length-append c.self.inside.held.items read.0),
      c.self.invariant.1,
      c.self.invariant.2,
      holds_appended c.self.inside.standing c.with_more-self-inside.result _ _ read.0 c.with_more-self-inside.ensures.kept
          c.with_more-self-inside.ensures.not_whole c.self.invariant.0 held c.self.invariant.3,
    )
