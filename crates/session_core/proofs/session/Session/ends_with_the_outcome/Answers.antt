use Rattle.std.proofs.Common.{◌≤◌, length, subst, sym}
use Rattle.spec_avro.specs.declared.limits.TheConstants.{MOST_PAYLOAD}
use Rattle.session_core.specs.SessionEnding.{SessionLeadsToOutcome}
use Rattle.spec_sessions.specs.Session.{Session}
use Rattle.session_core.proofs.Ends.{ends_within}
use Rattle.session_core.proofs.session.Session.ends_with_the_outcome.Goals as goal

pub returns : goal.returns
returns c =
    let state = c.self.inside.run.machine.state in
    let leads = c.ends_with_the_outcome.ensures in
    let few = subst (λ (s : Session). length s.bytes ≤ MOST_PAYLOAD) (sym c.self.view_is) c.is_kept.ensures.1.bytes in
    subst (SessionLeadsToOutcome c.args.writer.now c.args.reader.now) c.self.view_is
    (record { state = state; alone = c.is_alone.ensures; leads = leads; within = ends_within _ _ _ state few leads })
