-- What each call does to a seat. All of this is this project's own.
use Rattle.std.specs.Prelude.{◌≡◌, ◌≢◌, ◌≤◌, ◌⊎◌, ℕ, ◌+◌, ◌-◌, List, [], ◌∷◌, ◌++◌, All, length, Option, Some, None, slice_get}
use Rattle.session_pool.specs.declared.turning.Jobs.{Jobs}
use Rattle.session_pool.specs.declared.limits.TheConstants.{MOST_KEPT}
use Rattle.session_pool.specs.declared.seat.JobSeat.{JobSeat}
use Rattle.session_pool.specs.Passes.{listed}
use Rattle.session_pool.specs.JobSeats.{IsSeatOf, kept_by, number_of, put_by, stolen_by, taken_by, workers_of}

-- a seat has put nothing, and taken nothing from any deque
pub record IsEmpty (seat : JobSeat) : Type 0 where
  pub kept : kept_by seat ≡ 0
  pub put : put_by seat ≡ []
  pub taken : taken_by seat ≡ []
  pub stolen : (from : ℕ) → stolen_by seat from ≡ []

-- there are as many workers as this, each with an empty seat whose number is its place
pub record AreNew (many : ℕ) (jobs : Jobs) (seats : List JobSeat) : Type 0 where
  pub workers : workers_of jobs ≡ many
  pub theirs : All (IsSeatOf jobs) seats
  pub empty : All IsEmpty seats
  pub numbers : (k : ℕ) (seat : JobSeat) → slice_get seats k ≡ Some seat → number_of seat ≡ k

-- nothing was put and nothing taken
pub record Stays (old new : JobSeat) : Type 0 where
  pub number : number_of new ≡ number_of old
  pub kept : kept_by new ≡ kept_by old
  pub put : put_by new ≡ put_by old
  pub taken : taken_by new ≡ taken_by old
  pub stolen : (from : ℕ) → stolen_by new from ≡ stolen_by old from

-- A seat has no room for one number more: it keeps as many as it may, or memory is wanting, which it is for none of the
-- first ones.
abbrev pub HasNoRoom : JobSeat → Type 0
HasNoRoom seat = (kept_by seat ≡ MOST_KEPT) ⊎ (MOST_KEPT ≤ length (put_by seat))

-- one number more was put, and nothing taken
pub record Puts (slot : ℕ) (old new : JobSeat) : Type 0 where
  pub number : number_of new ≡ number_of old
  pub kept : kept_by new ≡ kept_by old + 1
  pub put : put_by new ≡ put_by old ++ slot ∷ []
  pub taken : taken_by new ≡ taken_by old
  pub stolen : (from : ℕ) → stolen_by new from ≡ stolen_by old from

-- how many numbers a seat keeps once its owner took one, or found none
abbrev pub kept_after : Option ℕ → ℕ → ℕ
kept_after None kept = 0
kept_after (Some slot) kept = kept - 1

-- what was answered was taken from its own deque, and nothing else was put or taken
pub record Takes (answer : Option ℕ) (old new : JobSeat) : Type 0 where
  pub number : number_of new ≡ number_of old
  pub kept : kept_by new ≡ kept_after answer (kept_by old)
  pub put : put_by new ≡ put_by old
  pub taken : taken_by new ≡ taken_by old ++ listed answer
  pub stolen : (from : ℕ) → stolen_by new from ≡ stolen_by old from

-- what was answered was taken from this worker's deque, and nothing else was put or taken
pub record Steals (from : ℕ) (answer : Option ℕ) (old new : JobSeat) : Type 0 where
  pub number : number_of new ≡ number_of old
  pub kept : kept_by new ≡ kept_by old
  pub put : put_by new ≡ put_by old
  pub taken : taken_by new ≡ taken_by old
  pub stolen : stolen_by new from ≡ stolen_by old from ++ listed answer
  pub others : (k : ℕ) → k ≢ from → stolen_by new k ≡ stolen_by old k
