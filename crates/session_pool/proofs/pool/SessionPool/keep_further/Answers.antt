use Rattle.session_pool.specs.Order.KeepsFurther.{more, none}
use Rattle.session_pool.proofs.Searches.{looks_not, sees_on}
use Rattle.session_pool.proofs.pool.SessionPool.keep_further.Goals as goal

pub loop-slot-init : goal.loop-slot-init
loop-slot-init c = (c.requires.jobs, c.requires.seat, looks_not _, none _)

pub loop-slot-preserved : goal.loop-slot-preserved
loop-slot-preserved c =
    let inv = c.loop-slot.invariant in
    let kept = c.keep_one.ensures in
    (kept.jobs, kept.seat, sees_on _ _ _ _ _ inv.2 kept.keeps.sees, more _ _ _ _ inv.3 kept.keeps)
