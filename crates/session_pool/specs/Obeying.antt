-- What a command comes to on a session that was taken out of its slot, for private clauses. All of this is this
-- project's own.
use Rattle.std.specs.Prelude.{◌≡◌, ◌≤◌, ◌⊎◌, ℕ, Bool, true, false}
use Rattle.spec_sessions.specs.Account.{Account}
use Rattle.spec_sessions.specs.Session.{Session}
use Rattle.session_pool_slots.specs.Account.{At, NoRows, RowsOn, has_ended, kept, told_all}
use Rattle.session_pool_slots.specs.Known.{PassData}
use Rattle.session_pool_slots.specs.Words.{IsWordOf, ended, ready}
use Rattle.session_pool.specs.Debugging.{Answers, LeavesBy}
use Rattle.session_pool.specs.declared.debugging.DebugCommand.{DebugCommand}
use Rattle.session_pool.specs.declared.debugging.Obeyed.{Obeyed}

-- the account of a session that is given back, by whether all its rows are reported
abbrev pub account_by : Bool → Account → Session → Account
account_by true = told_all
account_by false = kept

-- some rows on, if these are reported; and otherwise none
abbrev pub RowsBy : Bool → Session → Session → Type 0
RowsBy true = RowsOn
RowsBy false = NoRows

-- a session may be given back so, where its pass has another out
abbrev pub IsFitBack : Bool → Session → PassData → Session → Type 0
IsFitBack tells after pass before = RowsBy tells before after × (pass.account.seen ≤ before.count)

-- a command was executed on a session whose slot had the word `found`
pub record IsObeyed (command : DebugCommand) (found : ℕ) (before after : Session) (o : Obeyed) : Type 0 where
  -- whatever account fits the session
  pub answers : (a : Account) → At a before → Answers command a before o.reply after (account_by o.tells a after)
  pub rows : RowsBy o.tells before after
  pub word : IsWordOf (has_ended after) o.word
  pub left : LeavesBy command o.reply ((o.word ≡ ready) ⊎ (o.word ≡ ended)) ⊥ (o.word ≡ found)
