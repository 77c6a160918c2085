-- What each kind of step on this table says: the general definitions, for sessions and their accounts.
use Rattle.spec_sessions.specs.Session.{Session}
use Rattle.session_pool_slots.specs.Steps as steps
use Rattle.spec_sessions.specs.Account.{Account}
use Rattle.session_pool_slots.specs.Account.{At, NoRows, RowsOn, has_ended, kept, opened, told_all}

-- what a kind of step says to its caller
abbrev pub Telling : Type 1
Telling = steps.Telling Session Account

-- what a seat knows, and the slots whose content is out with it
abbrev pub Seat : Type 0
Seat = steps.Seat Session Account

-- a seat looks
abbrev pub looked : Telling
looked = steps.looked

-- a client claims
abbrev pub claimed : Telling
claimed = steps.claimed opened

-- a client takes its session
abbrev pub taken : Telling
taken = steps.taken At has_ended

-- a client gives its session back, no rows on
abbrev pub given : Telling
given = steps.given kept NoRows

-- a client gives its session back, some rows on, and learns how many were taken in all
abbrev pub told : Telling
told = steps.given told_all RowsOn

-- a client frees its slot
abbrev pub freed : Telling
freed = steps.freed

-- a worker takes a session that is ready
abbrev pub stolen : Telling
stolen = steps.stolen has_ended

-- a worker gives a session back, some rows on
abbrev pub returned : Telling
returned = steps.returned RowsOn
