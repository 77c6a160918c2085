use Rattle.std.proofs.Common.{sym, ap, subst, All, List, length, arith}
use Rattle.std.proofs.lemmas.List.Elements.{All-append}
use Rattle.session_pool.specs.Calls.{IsEmpty}
use Rattle.session_pool.specs.JobSeats.{IsSeatOf}
use Rattle.session_pool.specs.declared.seat.JobSeat.{JobSeat}
use Rattle.session_pool.specs.Seats.{IsNewWorker}
use Rattle.session_pool.proofs.Lists.{all_one, all_parts}
use Rattle.session_pool.proofs.pool.SessionPool.worker_seats.Goals as goal

pub loop-jobs-preserved : goal.loop-jobs-preserved
loop-jobs-preserved c =
    let inv = c.loop-jobs.invariant in
    let steps = c.in-Some.ensures.steps in
    let seat = all_parts (IsSeatOf c.args.self.now.jobs) _ _ _ steps.0 inv.to_come in
    let empty = all_parts IsEmpty _ _ _ steps.0 inv.empty in
    let New = IsNewWorker c.args.self.now in
    record {
      of_slots = c.another-slots.ensures.same.0;
      count = omega (arith, inv.count, ap (λ (l : List JobSeat). length l) steps.0, c.in_ok-push.ensures.len);
      to_come = seat.1;
      empty = empty.1;
      made =
          subst (All New) (sym c.in_ok-push.ensures.items)
          (All-append New _ _ inv.made (all_one New _ (record {
            rests = record { rests = c.another-slots.ensures.seat; jobs = seat.0 };
            blank = c.another-slots.ensures.blank;
            empty = empty.0;
          })));
    }
