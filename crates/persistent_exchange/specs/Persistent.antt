-- What came over a connection that stays, and what was sent on it (RFC 9112, section 9.3). Which requests bytes are,
-- and what was answered to them, is the history of `http_server`; the last answer may be another one. This project's
-- own.
use Rattle.std.specs.Prelude.{◌≡◌, ◌+◌, ℕ, List, ◌++◌, take, drop, Option}
use Rattle.std.specs.Io.KnownBytes.{Appends}
use Rattle.spec_service.specs.Persistent.{Persistent, received}

-- all that was sent
abbrev pub sent : Persistent → List ℕ
sent p = p.history.sent ++ take p.last_sent p.last

-- all that is left to send
abbrev pub pending : Persistent → List ℕ
pending p = p.history.pending ++ drop p.last_sent p.last

-- the first `count` of the pending bytes were sent; what was received and the calls are as they were
pub record Sends (old new : Persistent) (count : ℕ) : Type 0 where
  pub sent_is : sent new ≡ sent old ++ take count (pending old)
  pub pending_is : pending new ≡ drop count (pending old)
  pub received_is : received new ≡ received old
  pub calls_are : new.history.calls ≡ old.history.calls

-- some of the bytes that were seen were handed on; what was sent, what is pending and the calls are as they were
pub record HandsOn (old new : Persistent) : Type 0 where
  pub handed : ℕ
  pub history_is : new.history.received ≡ old.history.received ++ take handed old.held
  pub held_is : new.held ≡ drop handed old.held
  pub seen_is : new.seen + handed ≡ old.seen
  pub sent_is : sent new ≡ sent old
  pub pending_is : pending new ≡ pending old
  pub calls_are : new.history.calls ≡ old.history.calls

-- the next of the pending bytes were written
pub record Writes (old new : Option (List ℕ)) (before after : Persistent) : Type 0 where
  pub count : ℕ
  pub sends : Sends before after count
  pub written : Appends old new (take count (pending before))
