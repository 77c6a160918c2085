-- Nothing has come.
use Rattle.std.proofs.Common.{ℕ, arith, ap, sym, ◌∙◌, refl}
use Rattle.http_server.specs.declared.state.Config.{Config}
use Rattle.spec_service.specs.Stream.{new_scouted}
use Rattle.persistent_exchange.proofs.Keeping.{saw_nothing}
use Rattle.persistent_exchange.proofs.exchange.PersistentExchange.new.Goals as goal

pub invariant_of-result : goal.invariant_of-result
invariant_of-result c = (
  omega arith,
  omega arith,
  λ some. absurd (omega (arith, some)),
  saw_nothing _ c.new.ensures.history c.new-3.ensures.items refl
      (c.new-2.ensures ∙ ap (λ (k : Config). new_scouted k.limits k.max_body_len) (sym c.new.ensures.config)),
)
