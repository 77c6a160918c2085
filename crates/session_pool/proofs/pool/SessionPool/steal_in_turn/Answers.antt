use Rattle.std.proofs.Common.{◌≡◌, ℕ, None, Some, refl, subst, arith}
use Rattle.session_pool.specs.JobSeats.{workers_of}
use Rattle.session_pool.specs.Order.{StealsMiss}
use Rattle.session_pool.proofs.Orders.{looks_nowhere, steals_first, steals_itself, steals_lead, steals_more}
use Rattle.session_pool.proofs.Searches.{takes_later}
use Rattle.session_pool.proofs.pool.SessionPool.steal_in_turn.Goals as goal
use Rattle.session_pool.proofs.pool.SessionPool.steal_in_turn.Goals.{in-Some+in_default-take_job, in_default}

pub loop-from-init : goal.loop-from-init
loop-from-init c = steals_first _ _ _ c.requires refl

pub loop-from-preserved-then-from-own : goal.loop-from-preserved-then-from-own
loop-from-preserved-then-from-own c = steals_itself _ _ _ _ _ c.loop-from.invariant c.if-from-own.true

pub loop-from-preserved : goal.loop-from-preserved
loop-from-preserved c =
    let inv = c.loop-from.invariant in
    let jobs = c.steal.new.seat in
    elim c.match-steal.branch [
      | in-Some+in_default-take_job w ↦
          let at = w.in_default-take_job.ensures in
          steals_more _ _ _ _ _ inv (Some w.in-Some.slot) w.take_job.new.seat jobs _ c.if-from-own.false w.in-Some.ensures.stolen at.once at.found at.seat c.steal.ensures.seat w.seat-is
      | in_default w ↦
          steals_more _ _ _ _ _ inv None c.loop-from.seat.slots jobs _ c.if-from-own.false w.in_default.ensures.stolen refl (looks_nowhere _ _ inv.rests) inv.rests.rests.0 c.steal.ensures.seat w.seat-is
    ]

pub returns-in-Some-take_job-clause-found : goal.returns-in-Some-take_job-clause-found
returns-in-Some-take_job-clause-found c = takes_later _ _ _ _ c.loop-from.invariant.looks.looks c.in-Some-take_job.ensures.found

pub returns-in-Some-take_job-clause-order : goal.returns-in-Some-take_job-clause-order
returns-in-Some-take_job-clause-order c =
    let inv = c.loop-from.invariant in
    steals_lead _ _ _ _ _ _ _ _ _ (omega (arith, c.loop-from-test.true, c.workers-from-end.ensures)) inv.order inv.number c.if-from-own.false c.in-Some.ensures.stolen c.in-Some-take_job.ensures.once

pub returns-clause-order : goal.returns-clause-order
returns-clause-order c =
    let all : c.loop-from.from ≡ workers_of c.args.self.now.jobs = omega (arith, c.loop-from-test.false, c.loop-from.auto.from-end, c.workers-from-end.ensures) in
    subst (λ (k : ℕ). StealsMiss k c.args.seat.now c.loop-from.seat) all c.loop-from.invariant.order
