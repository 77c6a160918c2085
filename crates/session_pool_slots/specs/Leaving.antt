-- The word that a session leaves. All of this is this project's own.
use Rattle.std.specs.Prelude.{ℕ, if◌then◌else◌}
use Rattle.session_core.specs.declared.session.Stopped.{Stopped}
use Rattle.session_core.specs.declared.session.Stopped.TheVariants.{Broke, Ended, Spent, Waits}
use Rattle.spec_sessions.specs.Session.{Session}
use Rattle.session_pool_slots.specs.Words.{ended, ready, waiting}
use Rattle.session_pool_slots.specs.Account.{has_ended}

-- after a client's call that lets it go on
abbrev pub word_after : Session → ℕ
word_after s = if has_ended s then ended else ready

-- after a slice, by why no more rows were taken
abbrev pub word_after_slice : Stopped → ℕ
word_after_slice Ended = ended
word_after_slice Spent = ready
word_after_slice Broke = waiting
word_after_slice Waits = waiting
