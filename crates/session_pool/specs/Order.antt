-- In which order a worker looks for a session. All of this is this project's own.
-- First it looks into its own deque, then into each other worker's, then at all slots. A seat has a list of the words
-- that it found, and one of the numbers that it took for each deque: what came first is shown by the seat in between,
-- to which one part of the search led and from which the next went on.
use Rattle.std.specs.Prelude.{◌≡◌, ◌≢◌, ◌<◌, ◌≤◌, ◌⊎◌, ℕ, ◌+◌, List, [], ◌∷◌, ◌++◌, Option, Some, None, MatchOption}
use Rattle.session_pool.specs.declared.seat.JobSeat.{JobSeat}
use Rattle.session_pool.specs.Calls.{HasNoRoom, Puts, Stays, Steals, Takes}
use Rattle.session_pool.specs.JobSeats.{number_of, workers_of}
use Rattle.session_pool_slots.specs.Results.{HasNoted, HasSame, IsUnready, words_of}
use Rattle.session_pool_slots.specs.Words.{ready, slots}
use Rattle.session_pool_slots.specs.declared.slots.SlotSeat.{SlotSeat}
use Rattle.session_pool_slots.specs.declared.taking.RunSlice.{RunSlice}
use Rattle.session_pool_slots.specs.Account.{has_ended}
use Rattle.session_pool_slots.specs.Seats.{knows}
use Rattle.session_pool_slots.specs.Working.{FindsNoneReady, Runs, Sees, TakesFirst}
use Rattle.session_pool.specs.declared.pool.SessionPool.{SessionPool}
use Rattle.session_pool.specs.declared.pool.WorkerSeat.{WorkerSeat}
use Rattle.session_pool.specs.declared.turning.Turn.{Turn}
use Rattle.session_pool.specs.declared.turning.Turn.TheVariants.{Idle, Ran}

-- ---- a job

-- a job led to the session of its slot, which was ready when it was looked at and when it was taken
pub record Leads (job : ℕ) (old new : SlotSeat) : Type 0 where
  pub found : (knows new).found ≡ (knows old).found ++ words_of job (ready ∷ ready ∷ [])
  pub same : HasSame (knows old) (knows new)
  pub noted : HasNoted has_ended new.seat.me job

-- a job led to none: the words that were found of its slot are those of one that is not ready
pub record FindsUnready (job : ℕ) (old new : SlotSeat) : Type 0 where
  pub words : List ℕ
  pub unready : IsUnready words
  pub found : (knows new).found ≡ (knows old).found ++ words_of job words
  pub same : HasSame (knows old) (knows new)

-- What a deque answered led to no session: there was no job, or its number is no slot's, or its slot is not ready.
abbrev pub Misses : Option ℕ → SlotSeat → SlotSeat → Type 0
Misses None old new = new ≡ old
Misses (Some job) old new = ((slots ≤ job) × (new ≡ old)) ⊎ FindsUnready job old new

-- ---- its own deque

-- a job was taken from its own deque, or none was there, and led to no session
pub record OwnMisses (old new : WorkerSeat) : Type 0 where
  pub answer : Option ℕ
  pub takes : Takes answer old.jobs new.jobs
  pub misses : Misses answer old.slots new.slots

-- a job was taken from its own deque, and led to the session of this slot
pub record OwnLeads (slot : ℕ) (old new : WorkerSeat) : Type 0 where
  pub takes : Takes (Some slot) old.jobs new.jobs
  pub leads : Leads slot old.slots new.slots

-- ---- the deques of other workers

-- a job was stolen from this worker, which is another, or none was, and led to no session
pub record StealMisses (from : ℕ) (old new : WorkerSeat) : Type 0 where
  pub other : from ≢ number_of old.jobs
  pub answer : Option ℕ
  pub steals : Steals from answer old.jobs new.jobs
  pub misses : Misses answer old.slots new.slots

-- Each worker numbered below this one was stolen from once, in order, but the worker itself; no job led to a session.
-- A steal that answered none leaves no trace with the thief, so nothing shows that it was made.
pub data StealsMiss : ℕ → WorkerSeat → WorkerSeat → Type 0 where
  none : (seat : WorkerSeat) → StealsMiss 0 seat seat
  itself : (from : ℕ) (old new : WorkerSeat) → StealsMiss from old new → from ≡ number_of new.jobs
      → StealsMiss (from + 1) old new
  other : (from : ℕ) (old mid new : WorkerSeat) → StealsMiss from old mid → StealMisses from mid new
      → StealsMiss (from + 1) old new

-- So it was with each below a worker, which is another; the job stolen from that one led to the session of this slot.
pub record StealsLead (workers slot : ℕ) (old new : WorkerSeat) : Type 0 where
  pub from : ℕ
  pub within : from < workers
  pub mid : WorkerSeat
  pub before : StealsMiss from old mid
  pub other : from ≢ number_of mid.jobs
  pub steals : Steals from (Some slot) mid.jobs new.jobs
  pub leads : Leads slot mid.slots new.slots

-- ---- what is put

-- A slot whose word is ready was put into its own deque, unless there was no room for it; with another word it was not.
pub record PutsReady (word slot : ℕ) (old new : JobSeat) : Type 0 where
  pub puts : word ≡ ready → Puts slot old new ⊎ (HasNoRoom old × Stays old new)
  pub stays : word ≢ ready → Stays old new

-- ---- a scan of all slots

-- the word of the slot was found, once, and the slot was put as that word says
pub record KeepsOne (slot : ℕ) (old new : WorkerSeat) : Type 0 where
  pub word : ℕ
  pub sees : Sees slot word old.slots new.slots
  pub jobs : PutsReady word slot old.jobs new.jobs

-- Each slot from one on, and below another, was looked at once, in order, and put as the word that was found says.
pub data KeepsFurther (from : ℕ) : ℕ → WorkerSeat → WorkerSeat → Type 0 where
  none : (seat : WorkerSeat) → KeepsFurther from from seat seat
  more : (slot : ℕ) (old mid new : WorkerSeat) → KeepsFurther from slot old mid → KeepsOne slot mid new
      → KeepsFurther from (slot + 1) old new

-- The slots were looked at in order, up to the first that was ready, whose session was taken; and then all further
-- ones, of which those that were ready were put.
pub record ScansOn (slot : ℕ) (old new : WorkerSeat) : Type 0 where
  pub mid : WorkerSeat
  pub first : TakesFirst old.slots slot mid.slots
  pub jobs : mid.jobs ≡ old.jobs
  pub further : KeepsFurther (slot + 1) slots mid new

-- The slots were looked at, all of them where none was ready.
pub record Scans (result : Option ℕ) (old new : WorkerSeat) : Type 0 where
  pub found : MatchOption result
      (FindsNoneReady old.slots new.slots × (new.jobs ≡ old.jobs))
      (λ slot. ScansOn slot old new)
  pub same : HasSame (knows old.slots) (knows new.slots)

-- ---- a turn

-- its own deque was looked into first, and then those of all others; none led to a session
pub record JobsMiss (workers : ℕ) (old new : WorkerSeat) : Type 0 where
  pub mid : WorkerSeat
  pub own : OwnMisses old mid
  pub others : StealsMiss workers mid new

-- How a worker came to the session of a slot, or to none.
pub data Comes (pool : SessionPool) (old : WorkerSeat) : Option ℕ → WorkerSeat → Type 0 where
  -- by a job of its own deque, before it looked anywhere else
  by_own : (slot : ℕ) (new : WorkerSeat) → OwnLeads slot old new → Comes pool old (Some slot) new
  -- by a job that it stole, once its own deque had led to none
  by_theft : (slot : ℕ) (mid new : WorkerSeat) → OwnMisses old mid → StealsLead (workers_of pool.jobs) slot mid new
      → Comes pool old (Some slot) new
  -- by a scan, or by nothing, once no deque had led to one
  by_scan : (result : Option ℕ) (mid new : WorkerSeat) → JobsMiss (workers_of pool.jobs) old mid → Scans result mid new
      → Comes pool old result new

-- The worker came to the session so, and ran it. After that it found no word, and took no job; it put the slot into its
-- own deque where the slice left it ready, and else nothing.
pub record ComesAndRuns (pool : SessionPool) (old : WorkerSeat) (slot limit rows : ℕ) (new : WorkerSeat) : Type 0 where
  pub mid : WorkerSeat
  pub comes : Comes pool old (Some slot) mid
  pub slice : RunSlice
  pub count : slice.rows ≡ rows
  pub runs : Runs (knows mid.slots) slot limit slice (knows new.slots)
  pub jobs : PutsReady slice.word slot mid.jobs new.jobs

-- in which order a turn looked
abbrev pub TurnsInOrder : SessionPool → WorkerSeat → ℕ → Turn → WorkerSeat → Type 0
TurnsInOrder pool old limit Idle new = Comes pool old None new
TurnsInOrder pool old limit (Ran slot rows) new = ComesAndRuns pool old slot limit rows new
