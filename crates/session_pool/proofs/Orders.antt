-- What the parts of a search, in order, come to together.
use Rattle.std.proofs.Common.{◌≡◌, ◌≢◌, ◌<◌, ◌+◌, ℕ, Option, Some, None, MatchOption, sym, ◌∙◌, subst}
use Rattle.session_pool.specs.declared.seat.JobSeat.{JobSeat}
use Rattle.session_pool.specs.Calls.{Steals}
use Rattle.session_pool.specs.JobSeats.{IsSeatOf, number_of, workers_of}
use Rattle.session_pool_slots.specs.declared.slots.SlotSeat.{SlotSeat}
use Rattle.session_pool_slots.specs.Seats.{IsSeatOf as IsSlotSeatOf, knows}
use Rattle.session_pool.specs.declared.pool.SessionPool.{SessionPool}
use Rattle.session_pool.specs.declared.pool.WorkerSeat.{WorkerSeat}
use Rattle.session_pool.specs.Order.{Comes, JobsMiss, Leads, Misses, OwnMisses, StealsLead, StealsMiss}
use Rattle.session_pool.specs.Order.Comes.{by_theft}
use Rattle.session_pool.specs.Order.StealsMiss.{itself, none, other}
use Rattle.session_pool.specs.Searching.{LooksByJobs}
use Rattle.session_pool.specs.Seats.{RestsWorker}
use Rattle.session_pool.proofs.Searches.{looks_on, no_looks}

-- ---- steals, one from each other worker

-- what holds once the workers below this one have been stolen from
pub record StealsSoFar (pool : SessionPool) (own from : ℕ) (old new : WorkerSeat) : Type 0 where
  pub rests : RestsWorker pool new
  pub looks : LooksByJobs old.slots new.slots
  pub number : own ≡ number_of new.jobs
  pub order : StealsMiss from old new

-- of a seat with which no slot is out nothing is found by no look
pub looks_nowhere : (pool : SessionPool) (seat : WorkerSeat) → RestsWorker pool seat → LooksByJobs seat.slots seat.slots
looks_nowhere pool seat rests = record { looks = no_looks (knows seat.slots); holds = rests.rests.1 }

pub steals_first : (pool : SessionPool) (own : ℕ) (seat : WorkerSeat) → RestsWorker pool seat → own ≡ number_of seat.jobs → StealsSoFar pool own 0 seat seat
steals_first pool own seat rests is = record { rests = rests; looks = looks_nowhere pool seat rests; number = is; order = none seat }

module _ (pool : SessionPool) (own from : ℕ) (old mid : WorkerSeat) (before : StealsSoFar pool own from old mid) where
  -- the worker itself is passed over
  pub steals_itself : from ≡ own → StealsSoFar pool own (from + 1) old mid
  steals_itself e = record { rests = before.rests; looks = before.looks; number = before.number; order = itself from old mid before.order (e ∙ before.number) }

  -- none was stolen, or one that led to no session
  pub steals_more : (answer : Option ℕ) (slots : SlotSeat) (jobs : JobSeat) (new : WorkerSeat) → from ≢ own → Steals from answer mid.jobs jobs → Misses answer mid.slots slots → LooksByJobs mid.slots slots
      → IsSlotSeatOf pool.slots slots → IsSeatOf pool.jobs jobs → new ≡ record { slots = slots; jobs = jobs } → StealsSoFar pool own (from + 1) old new
  steals_more answer slots jobs new not s m looks of_slots of_jobs e = let after : WorkerSeat = record { slots = slots; jobs = jobs } in
      subst (λ (w : WorkerSeat). StealsSoFar pool own (from + 1) old w) (sym e) (record {
        rests = record { rests = (of_slots, looks.holds); jobs = of_jobs };
        looks = record { looks = looks_on (knows old.slots) (knows mid.slots) (knows slots) before.looks.looks looks.looks; holds = looks.holds };
        number = before.number ∙ sym s.number;
        order = other from old mid after before.order (record { other = λ i. not (i ∙ sym before.number); answer = answer; steals = s; misses = m });
      })

-- one led to a session
pub steals_lead : (workers own found job from : ℕ) (old mid : WorkerSeat) (slots : SlotSeat) (jobs : JobSeat) → from < workers → StealsMiss from old mid → own ≡ number_of mid.jobs → from ≢ own → Steals from (Some job) mid.jobs jobs → (found ≡ job) × Leads job mid.slots slots → StealsLead workers found old (record { slots = slots; jobs = jobs })
steals_lead workers own found job from old mid slots jobs within before is not s h = let new : WorkerSeat = record { slots = slots; jobs = jobs } in
    subst (λ (k : ℕ). StealsLead workers k old new) (sym h.0) (record { from = from; within = within; mid = mid; before = before; other = λ e. not (e ∙ sym is); steals = s; leads = h.1 })

-- ---- its own deque, and then those of others

pub others_then : (pool : SessionPool) (old mid new : WorkerSeat) (r : Option ℕ) → OwnMisses old mid → MatchOption r (StealsMiss (workers_of pool.jobs) mid new) (λ slot. StealsLead (workers_of pool.jobs) slot mid new) → MatchOption r (JobsMiss (workers_of pool.jobs) old new) (λ slot. Comes pool old (Some slot) new)
others_then pool old mid new None own m = record { mid = mid; own = own; others = m }
others_then pool old mid new (Some slot) own l = by_theft slot mid new own l
