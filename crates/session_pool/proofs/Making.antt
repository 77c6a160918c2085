-- What holds of seats while they get their passes, and once they have them.
use Rattle.std.proofs.Common.{◌≡◌, ◌≢◌, ◌<◌, ◌≤◌, ◌+◌, ℕ, List, [], ◌∷◌, ◌++◌, Some, length, slice_get, set, vec_len, sym, ap, ◌∙◌, subst, ⊎_elim, arith}
use Rattle.std.proofs.lemmas.Option.{slice_get_within}
use Rattle.crossbeam_deque.specs.Handles.{stealer_deque, worker_deque}
use Rattle.session_pool.specs.declared.turning.Jobs.{Jobs}
use Rattle.session_pool.specs.declared.seat.JobSeat.{JobSeat}
use Rattle.session_pool.specs.Passes.{AreEmptyPasses, Thief}
use Rattle.session_pool.specs.JobSeats.{AreAlone, IsAlone, IsSeatOf, kept_by, number_of, workers_of}
use Rattle.session_pool.specs.Calls.{AreNew, IsEmpty}
use Rattle.session_pool.proofs.Places.{snoc_place, set_place, all_places}

-- one seat more, whose number is its place
pub one_more : (seats : List JobSeat) (n : ℕ) (seat : JobSeat) → length seats ≡ n → AreAlone seats → IsAlone n seat → AreAlone (seats ++ seat ∷ [])
one_more seats n seat len alone one k other at = ⊎_elim (λ (e : slice_get seats k ≡ Some other). alone k other e)
    (λ (e : (k ≡ length seats) × (seat ≡ other)). subst (λ (i : ℕ). IsAlone i other) (sym (e.0 ∙ len)) (subst (IsAlone n) e.1 one))
    (snoc_place seats seat other k at)

-- a seat at this place; below the bound it has its passes
pub record IsUpTo (bound : ℕ) (jobs : Jobs) (k : ℕ) (seat : JobSeat) : Type 0 where
  pub alone : IsAlone k seat
  pub own : (s : Thief) → slice_get jobs.stealers.items k ≡ Some s → stealer_deque s ≡ worker_deque seat.own
  pub count : k < bound → vec_len seat.passes ≡ vec_len jobs.stealers
  pub passes : k < bound → AreEmptyPasses jobs.stealers.items seat.passes.items

abbrev pub AreUpTo : ℕ → Jobs → List JobSeat → Type 0
AreUpTo bound jobs seats = (k : ℕ) (seat : JobSeat) → slice_get seats k ≡ Some seat → IsUpTo bound jobs k seat

-- a seat that got its passes
got : (n : ℕ) (jobs : Jobs) (old new : JobSeat) → IsUpTo n jobs n old → number_of new ≡ number_of old → kept_by new ≡ kept_by old → new.own ≡ old.own → vec_len new.passes ≡ vec_len jobs.stealers → AreEmptyPasses jobs.stealers.items new.passes.items → IsUpTo (n + 1) jobs n new
got n jobs old new h number kept own count passes = record {
  alone = record { number = number ∙ h.alone.number; kept = kept ∙ h.alone.kept; put = search (own, h.alone.put); taken = search (own, h.alone.taken) };
  own = λ s at. h.own s at ∙ ap (λ o. worker_deque o) (sym own);
  count = λ _. count;
  passes = λ _. passes;
}

-- of the other seats as much holds
later : (n : ℕ) (jobs : Jobs) (k : ℕ) (seat : JobSeat) → k ≢ n → IsUpTo n jobs k seat → IsUpTo (n + 1) jobs k seat
later n jobs k seat ne h = record { alone = h.alone; own = h.own; count = λ lt. h.count (omega arith); passes = λ lt. h.passes (omega arith) }

pub one_got : (n : ℕ) (jobs : Jobs) (seats : List JobSeat) (old new : JobSeat) → AreUpTo n jobs seats → slice_get seats n ≡ Some old → number_of new ≡ number_of old → kept_by new ≡ kept_by old → new.own ≡ old.own → vec_len new.passes ≡ vec_len jobs.stealers → AreEmptyPasses jobs.stealers.items new.passes.items → AreUpTo (n + 1) jobs (set seats n new)
one_got n jobs seats old new h there number kept own count passes k other at = ⊎_elim (λ (e : (k ≢ n) × (slice_get seats k ≡ Some other)). later n jobs k other e.0 (h k other e.1))
    (λ (e : (k ≡ n) × (new ≡ other)). subst (λ (i : ℕ). IsUpTo (n + 1) jobs i other) (sym e.0) (subst (IsUpTo (n + 1) jobs n) e.1 (got n jobs old new (h n old there) number kept own count passes)))
    (set_place seats n new other k at)

-- a seat that has its passes is one of these workers', and empty
is_seat : (n : ℕ) (jobs : Jobs) (k : ℕ) (seat : JobSeat) → k < n → k < workers_of jobs → IsUpTo n jobs k seat → IsSeatOf jobs seat
is_seat n jobs k seat below within h = record {
  number = omega (arith, within, h.alone.number);
  own = λ s at. h.own s (subst (λ i. slice_get jobs.stealers.items i ≡ Some s) h.alone.number at);
  count = h.count below;
  passes = (h.passes below).each;
}

is_empty : (n : ℕ) (jobs : Jobs) (k : ℕ) (seat : JobSeat) → k < n → IsUpTo n jobs k seat → IsEmpty seat
is_empty n jobs k seat below h = record { kept = h.alone.kept; put = h.alone.put; taken = h.alone.taken; stolen = (h.passes below).empty }

pub all_new : (many n : ℕ) (jobs : Jobs) (seats : List JobSeat) → many ≤ n → workers_of jobs ≡ many → length seats ≡ many → AreUpTo n jobs seats → AreNew many jobs seats
all_new many n jobs seats enough workers len h = record {
  workers = workers;
  theirs = all_places (IsSeatOf jobs) seats (λ k seat at. let within : k < length seats = slice_get_within seats k seat at in is_seat n jobs k seat (omega (arith, within, len, enough)) (omega (arith, within, len, workers)) (h k seat at));
  empty = all_places IsEmpty seats (λ k seat at. let within : k < length seats = slice_get_within seats k seat at in is_empty n jobs k seat (omega (arith, within, len, enough)) (h k seat at));
  numbers = λ k seat at. (h k seat at).alone.number;
}
