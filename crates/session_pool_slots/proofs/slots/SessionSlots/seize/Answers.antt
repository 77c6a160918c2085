use Rattle.std.proofs.Common.{◌∙◌, refl, inr}
use Rattle.session_pool_slots.specs.Words.{ready}
use Rattle.session_pool_slots.specs.Steps.{pass_stood}
use Rattle.session_pool_slots.proofs.Calls.{stood_now, stood_pass, took_expected, took_nothing, took_stood}
use Rattle.session_pool_slots.specs.Account.{At, has_ended}
use Rattle.session_pool_slots.proofs.Hands.{has_taken}
use Rattle.session_pool_slots.proofs.slots.SessionSlots.seize.Goals as goal
use Rattle.session_pool_slots.proofs.slots.SessionSlots.seize.Goals.{then-found-eq-WITH_WORKER-via-then-found-eq-WITH_WORKER, then-found-eq-WITH_WORKER-via-else-found-eq-WITH_WORKER+then-found-eq-READY}

pub returns-then-found-eq-WITH_WORKER-clause-taken : goal.returns-then-found-eq-WITH_WORKER-clause-taken
returns-then-found-eq-WITH_WORKER-clause-taken c = λ away p mine. elim c.then-found-eq-WITH_WORKER.branch [
  | then-found-eq-WITH_WORKER-via-then-found-eq-WITH_WORKER w ↦ absurd (away w.if-found-eq-WITH_WORKER.true)
  | then-found-eq-WITH_WORKER-via-else-found-eq-WITH_WORKER+then-found-eq-READY w ↦
      has_taken _ _ _ _ p c.requires.seat.1 (took_expected At has_ended _ _ ready _ _ w.if-found-eq-READY.true c.take_from-found.ensures.taken p mine)
]

pub returns-then-found-eq-WITH_WORKER-clause-busy : goal.returns-then-found-eq-WITH_WORKER-clause-busy
returns-then-found-eq-WITH_WORKER-clause-busy c = λ is. let h = c.requires.pass in let t = took_nothing At has_ended _ _ _ h.pass _ h.there is c.take_from-found.ensures.taken in
    record { holds = t.1 ∙ c.requires.seat.1; missed = t.0 }

pub take_from-requires-clause-pass : goal.take_from-requires-clause-pass
take_from-requires-clause-pass c = let h = c.requires.pass in
    let s = stood_now At has_ended _ _ _ h.pass _ h.there c.if-found-eq-WITH_WORKER.false c.if-found-eq-READY.false c.take_from-found.ensures.taken in record {
      pass = pass_stood h.pass c.take_from-found.result;
      inside = h.inside;
      there = stood_pass At has_ended _ _ _ h.pass _ h.there s;
      home = h.home;
      from = inr (s.low, s.high, refl);
    }

pub returns-clause-taken : goal.returns-clause-taken
returns-clause-taken c = λ _ p mine. has_taken _ _ _ _ p c.requires.seat.1
    (took_stood At has_ended _ _ _ _ _ _ c.if-found-eq-WITH_WORKER.false c.if-found-eq-READY.false c.take_from-found.ensures.taken c.take_from.ensures.taken p mine)
