-- What a seat knows, and the rule of the table: the general definitions, for sessions and their accounts.
use Rattle.std.specs.Prelude.{ℕ, Option}
use Rattle.atomic_table.specs.Table.{State}
use Rattle.spec_sessions.specs.Session.{Session}
use Rattle.session_pool_slots.specs.Views as views
use Rattle.session_pool_slots.specs.Rule as rule
use Rattle.spec_sessions.specs.Account.{Account}
use Rattle.session_pool_slots.specs.Account.{At, has_ended}

-- what a seat knows
abbrev pub Known : Type 0
Known = views.View Session Account

-- a client's pass
abbrev pub PassData : Type 0
PassData = views.PassData Session Account

-- what a new seat knows
abbrev pub blank : Known
blank = views.blank

-- the rule of the table
abbrev pub IsInOrder : State (Option Session) Known → Type 0
IsInOrder = rule.IsInOrder At has_ended

-- the pass for a slot
abbrev pub pass_of : ℕ → Known → Option PassData
pass_of = views.pass_of

-- the note of a slot
abbrev pub note_of : ℕ → Known → Option Session
note_of = views.note_of
