use Rattle.session_core.proofs.Breaks.{cleared_kept}
use Rattle.session_core.proofs.session.Session.clear_break.Goals as goal

pub invariant_of-self : goal.invariant_of-self
invariant_of-self c =
    cleared_kept _ c.self.inside.run.machine.state c.args.address c.clear.new.breaks.items c.self.invariant c.clear.ensures.cleared c.clear.ensures.fewer
