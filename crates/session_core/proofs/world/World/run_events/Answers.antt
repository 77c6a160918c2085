use Rattle.std.proofs.Common.{map, subst}
use Rattle.session_core.specs.Event.{event_of}
use Rattle.spec_sessions.specs.Happening.{Happened}
use Rattle.session_core.specs.Happening.{steps_of}
use Rattle.spec_sessions.specs.World.{World}
use Rattle.session_core.proofs.world.World.run_events.Goals as goal

pub returns-clause-own : goal.returns-clause-own
returns-clause-own g c =
    let steps = steps_of (map event_of c.args.events.now) c.take_events.new.replies.items in
    let happened = subst (λ (w : World). Happened steps w c.take_events.new.world) c.new-world.ensures c.in_ok-take_events.ensures.happened in
    c.sessions_are_their_own.ensures steps c.take_events.new.world happened
