-- Where no field or no partner is left, there is no route.
use Rattle.std.proofs.Common.{inl, inr}
use Rattle.resolver.proofs.RouteLoop.{routes_end}
use Rattle.resolver.proofs.pairing.routes.Goals as goal

pub returns : goal.returns
returns c = routes_end _ _ _ _ _ c.loop-field.invariant (elim c.in-None.ensures.steps [ inl a ↦ inl a.1.0 | inr b ↦ inr b.1.0 ])
