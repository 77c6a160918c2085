-- What `open` answers. All of this is this project's own.
use Rattle.std.specs.Prelude.{◌≡◌, ◌∷◌, [], Option, Some, None, IfSome, MatchOption}
use Rattle.std.proofs.Common.{Bor}
use Rattle.spec_schema.specs.Schema.{Declaration}
use Rattle.spec_machine.specs.Code.{code_of}
use Rattle.spec_sessions.specs.declared.publish_error.PublishError.TheVariants.{Clash, NoMemory, ProgramTooLarge}
use Rattle.program_cache.specs.Compiled.{IsOther}
use Rattle.program_cache.specs.declared.compiled.Compiled.{Compiled}
use Rattle.program_cache.specs.declared.refusal.PairRefusal.{PairRefusal}
use Rattle.program_cache.specs.declared.refusal.PairRefusal.TheVariants as pairs
use Rattle.session_pool_slots.specs.Results.{IsOccupied, Searched}
use Rattle.session_pool_slots.specs.Words.{free, ready}
use Rattle.session_pool_slots.specs.Account.{new_account}
use Rattle.session_pool_slots.specs.Opening.{FindsNoneFree}
use Rattle.session_pool_slots.specs.Seats.{knows}
use Rattle.session_pool.specs.declared.pool.ClientSeat.{ClientSeat}
use Rattle.session_pool.specs.declared.refusals.OpenError.{OpenError}
use Rattle.session_pool.specs.declared.refusals.OpenError.TheVariants.{Full, NoProgram}
use Rattle.spec_sessions.specs.Pass.{Pass}
use Rattle.session_pool.specs.Seats.{IsGone, KeepsOthers, left, told}

-- the pass is for a session of these two schemas' program
pub record IsFor (writer reader : Option Declaration) (pass : Pass) : Type 0 where
  pub of_writer : writer ≡ Some pass.pair.writer
  pub of_reader : reader ≡ Some pass.pair.reader

-- A session of the pass's program has begun, with a new account, in the first slot that was found free, when it was
-- looked at and when it was claimed: the slots below were found taken, in order. The seat had no pass for it, and the
-- slot is left ready.
pub record HasOpened (old : ClientSeat) (pass : Pass) (new : ClientSeat) : Type 0 where
  pub begun : told new pass ≡ new_account pass.pair.program
  pub left : left new pass ≡ ready
  pub fresh : IsGone old pass
  pub others : KeepsOthers old pass new
  pub found : Searched IsOccupied (knows old.slots) pass.slot (free ∷ free ∷ []) (knows new.slots)

-- the seat shows what another pair than these two schemas was compiled to
abbrev pub ShowsOther : Option Declaration → Option Declaration → ClientSeat → Type 0
ShowsOther writer reader seat = MatchOption seat.other_pair ⊥ (λ other.
    IfSome writer (λ w. IfSome reader (λ r. IsOther w r other.now)))

-- The two schemas have no program; or all slots were found taken, in order; or another pair has their cell, which the
-- seat shows, and no slot was looked at; or memory ran out, and none was looked at.
abbrev pub IsWhyNotOpened : OpenError → Option Declaration → Option Declaration → ClientSeat → ClientSeat → Type 0
IsWhyNotOpened (NoProgram ProgramTooLarge) writer reader old new = IfSome writer (λ w. IfSome reader (λ r.
    code_of w.nodes r.nodes ≡ None))
IsWhyNotOpened Full writer reader old new = FindsNoneFree (knows old.slots) (knows new.slots)
IsWhyNotOpened (NoProgram Clash) writer reader old new =
    (knows new.slots ≡ knows old.slots) × ShowsOther writer reader new
IsWhyNotOpened (NoProgram NoMemory) writer reader old new = knows new.slots ≡ knows old.slots

-- the other pair that a refusal of the cache shows
abbrev pub shown_by : PairRefusal → Option (Bor Compiled)
shown_by pairs.ProgramTooLarge = None
shown_by (pairs.Clash other) = Some other
shown_by pairs.NoMemory = None
