use Rattle.std.proofs.Common.{sym, ap, subst, ◌≡◌, Some}
use Rattle.spec_sessions.specs.Session.{Session}
use Rattle.session_core.specs.World.{IsCodeOf}
use Rattle.spec_sessions.specs.World.{World, program_at}
use Rattle.session_core.proofs.Worlds.{found-here, kept-by-push}
use Rattle.session_core.proofs.world.World.begin.Goals as goal

pub invariant_of-self : goal.invariant_of-self
invariant_of-self c =
    let inside = c.self.inside in
    let world : World = record { commands = inside.registry; published = inside.published.items; sessions = inside.sessions.items } in
    let found = subst (λ (w : World). Some c.in-Some.program.now ≡ program_at c.args.writer c.args.reader w) (sym c.self.view_is) c.in-Some.ensures in
    let code = found-here world c.args.writer c.args.reader c.in-Some.program.now c.self.invariant found in
    kept-by-push world (record { holder = 0; writer = c.args.writer; reader = c.args.reader; session = c.begin.result }) c.push.new.self.items c.push.result c.push.ensures.items c.self.invariant
    (subst (IsCodeOf inside.registry c.args.writer c.args.reader) (sym (ap (λ (s : Session). s.program) c.begin.ensures)) code)
