use Rattle.std.proofs.Common.{refl, inr}
use Rattle.session_pool_slots.specs.Words.{ready}
use Rattle.session_pool_slots.specs.Seats.{knows}
use Rattle.session_pool.proofs.Searches.{finds_twice, looks_at}
use Rattle.session_pool.proofs.pool.SessionPool.take_job.Goals as goal

pub returns-then-take_at-ne-READY-clause-found : goal.returns-then-take_at-ne-READY-clause-found
returns-then-take_at-ne-READY-clause-found c = let no = c.take_at.ensures.not c.if-take_at-ne-READY.true in
    record { looks = looks_at (knows c.args.seat.now) (knows c.take_at.new.seat) c.args.slot no.words no.found c.take_at.ensures.same; holds = no.holds }

pub returns-then-take_at-ne-READY-clause-once : goal.returns-then-take_at-ne-READY-clause-once
returns-then-take_at-ne-READY-clause-once c = let no = c.take_at.ensures.not c.if-take_at-ne-READY.true in
    inr (record { words = no.words; unready = no.unready; found = no.found; same = c.take_at.ensures.same })

pub returns-clause-found : goal.returns-clause-found
returns-clause-found c = let taken = c.take_at.ensures.taken c.if-take_at-ne-READY.false in record {
  found = finds_twice (knows c.args.seat.now) (knows c.take_at.new.seat) c.args.slot ready taken.1;
  same = c.take_at.ensures.same;
  noted = taken.0;
}

pub returns-clause-once : goal.returns-clause-once
returns-clause-once c = let taken = c.take_at.ensures.taken c.if-take_at-ne-READY.false in
    (refl, record { found = taken.1; same = c.take_at.ensures.same; noted = taken.0 })
