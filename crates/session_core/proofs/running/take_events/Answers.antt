use Rattle.session_core.proofs.Histories.{event-more}
use Rattle.session_core.proofs.running.take_events.Goals as goal

pub loop-event-preserved : goal.loop-event-preserved
loop-event-preserved g c =
    event-more c.args.events.now c.loop-event.replies.items c.push.new.self.items c.loop-event.event-index c.event-item.result c.event-reply.result c.args.world.now c.loop-event.world c.event-reply.new.self c.loop-event-test.true c.event-item.is c.in_ok-push.ensures.items c.event-reply.ensures c.loop-event.invariant
