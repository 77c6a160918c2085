-- What the gate was asked in the calls, one after another.
use Rattle.gateway.proofs.Gates.{no_before, no_then}
use Rattle.gateway.proofs.Stopped.{if_why_on, why_on}
use Rattle.gateway.proofs.serving.outcome_by.Goals as goal

pub returns-in-Err-clause-why : goal.returns-in-Err-clause-why
returns-in-Err-clause-why g c =
    why_on _ _ (λ said. no_before g.G.Gate.says _ _ _ said c.abandon.ensures.asked) _ c.in-Err.ensures.why

pub returns-clause-why : goal.returns-clause-why
returns-clause-why g c = if_why_on _ _ _ (no_then g.G.Gate.says _ _ _ c.feed.ensures.asked) _ c.finish.ensures.why
