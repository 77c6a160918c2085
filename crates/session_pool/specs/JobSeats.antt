-- A worker's seat: a deque of its own, and a pass for each worker's. All of this is this project's own.
use Rattle.std.specs.Prelude.{◌≡◌, ℕ, ◌<◌, vec_len, List, [], Some, slice_get}
use Rattle.crossbeam_deque.specs.Handles.{stealer_deque, worker_deque, worker_view}
use Rattle.session_pool.specs.declared.turning.Jobs.{Jobs}
use Rattle.session_pool.specs.declared.seat.JobSeat.{JobSeat}
use Rattle.session_pool.specs.Passes.{ArePassesOf, Thief, taken_by_pass}

-- how many workers there are
abbrev pub workers_of : Jobs → ℕ
workers_of jobs = vec_len jobs.stealers

-- which of the workers' a seat is
abbrev pub number_of : JobSeat → ℕ
number_of seat = seat.number

-- how many numbers it has put and not taken back since it last found its own deque empty
abbrev pub kept_by : JobSeat → ℕ
kept_by seat = seat.kept

-- what it has put into its own deque, first to last
abbrev pub put_by : JobSeat → List ℕ
put_by seat = (worker_view seat.own).put

-- what it has taken from its own deque as its owner, first to last
abbrev pub taken_by : JobSeat → List ℕ
taken_by seat = (worker_view seat.own).taken

-- what it has taken from a worker's deque as a thief, first to last
abbrev pub stolen_by : JobSeat → ℕ → List ℕ
stolen_by seat from = taken_by_pass (slice_get seat.passes.items from)

-- A seat is one of these workers': the deque that others steal from at its number is its own, and it has a pass for
-- each.
pub record IsSeatOf (jobs : Jobs) (seat : JobSeat) : Type 0 where
  pub number : number_of seat < workers_of jobs
  pub own : (s : Thief) → slice_get jobs.stealers.items (number_of seat) ≡ Some s
      → stealer_deque s ≡ worker_deque seat.own
  pub count : vec_len seat.passes ≡ workers_of jobs
  pub passes : ArePassesOf jobs.stealers.items seat.passes.items

-- ---- while they are made

-- a seat with this number has put and taken nothing, and has no passes yet
pub record IsAlone (k : ℕ) (seat : JobSeat) : Type 0 where
  pub number : number_of seat ≡ k
  pub kept : kept_by seat ≡ 0
  pub put : put_by seat ≡ []
  pub taken : taken_by seat ≡ []

-- each seat's number is its place
abbrev pub AreAlone : List JobSeat → Type 0
AreAlone seats = (k : ℕ) (seat : JobSeat) → slice_get seats k ≡ Some seat → IsAlone k seat

-- each stealer is one of the deque of the seat at its place
abbrev pub AreOfSeats : List Thief → List JobSeat → Type 0
AreOfSeats stealers seats = (k : ℕ) (s : Thief) (seat : JobSeat) → slice_get stealers k ≡ Some s
    → slice_get seats k ≡ Some seat → stealer_deque s ≡ worker_deque seat.own
