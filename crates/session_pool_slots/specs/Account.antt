-- What a client's calls have made of its session. All of this is this project's own.
use Rattle.std.specs.Prelude.{◌≡◌, ◌≤◌, ℕ, Bool, true, false, List, [], ◌++◌, is_some}
use Rattle.spec_machine.specs.Program.{Program}
use Rattle.spec_sessions.specs.Rows.{TakesRows}
use Rattle.spec_sessions.specs.Session.{Session, end_in}
use Rattle.spec_sessions.specs.Account.{Account}

-- before the first call
abbrev pub new_account : Program → Account
new_account P = record { program = P; sent = []; closed = false; breaks = []; seen = 0 }

-- one more piece was taken
abbrev pub with_sent : List ℕ → Account → Account
with_sent piece a = record a { sent = a.sent ++ piece }

-- no more pieces come
abbrev pub with_close : Account → Account
with_close a = record a { closed = true }

-- these are the breakpoints now
abbrev pub with_breaks : List ℕ → Account → Account
with_breaks breaks a = record a { breaks = breaks }

-- `seen` rows were reported
abbrev pub with_seen : ℕ → Account → Account
with_seen seen a = record a { seen = seen }

-- the account is that of the session, of which at least as many rows were taken as were reported
pub record At (a : Account) (s : Session) : Type 0 where
  pub program : s.program ≡ a.program
  pub bytes : s.bytes ≡ a.sent
  pub closed : s.closed ≡ a.closed
  pub breaks : s.breaks ≡ a.breaks
  pub seen : a.seen ≤ s.count

-- whether a session has ended
abbrev pub has_ended : Session → Bool
has_ended s = is_some (end_in s)

-- the account of a session of which `seen` rows were reported
abbrev pub account_of : Session → ℕ → Account
account_of s seen = record { program = s.program; sent = s.bytes; closed = s.closed; breaks = s.breaks; seen = seen }

-- the account of a session that is new to its client
abbrev pub opened : Session → Account
opened s = account_of s 0

-- no more rows were reported than before
abbrev pub kept : Account → Session → Account
kept a s = account_of s a.seen

-- all rows were reported
abbrev pub told_all : Account → Session → Account
told_all a s = account_of s s.count

-- what a call that takes no rows may make of a session
pub record NoRows (before after : Session) : Type 0 where
  pub program : after.program ≡ before.program
  pub count : after.count ≡ before.count
  pub memory : after.out_of_memory ≡ before.out_of_memory

-- some rows on, or ended by want of memory
abbrev pub RowsOn : Session → Session → Type 0
RowsOn before after = (all : ℕ) × (rows : ℕ) × TakesRows all before rows after
