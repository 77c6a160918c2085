-- What is seen of the bytes that come next over a connection (RFC 9112, sections 2 to 7, as `http1` has them). How long
-- a content may be is this project's own.
use Rattle.std.specs.Prelude.{◌≡◌, ◌<◌, ◌++◌, ℕ, List, length, Result, Ok, Err, Bool, true, false, ◌≢◌}
use Rattle.httparse.specs.Spans.{span_bytes}
use Rattle.httparse.specs.declared.spans.HeaderSpan.{HeaderSpan}
use Rattle.httparse.specs.declared.spans.RequestSpans.{RequestSpans}
use Rattle.http_server.specs.declared.state.TheConstants.{MAX_HEADERS}
use Rattle.http1.specs.Conn.{unread_size}
use Rattle.http1.specs.Server.{ServerReads, ServerRefuses, reading}
use Rattle.http1.specs.declared.conn.BodySize.{BodySize}
use Rattle.http1.specs.declared.conn.BodySize.TheVariants.{Empty, Known, Unknown}
use Rattle.http1.specs.declared.conn.Event.{Event}
use Rattle.http1.specs.declared.conn.Event.TheVariants as events
use Rattle.http1.specs.declared.conn.Progress.{Progress}
use Rattle.http1.specs.declared.error.WriteError.{WriteError}
use Rattle.http1.specs.declared.error.WriteError.TheVariants.{OutOfMemory}
use Rattle.http1.specs.declared.server.Server.{Server}
use Rattle.persistent_exchange.specs.declared.scout.Refusal.{Refusal}
use Rattle.persistent_exchange.specs.declared.scout.Refusal.TheVariants.{NoMemory, TooLarge, Unreadable}
use Rattle.spec_service.specs.Scouting.{Scouted}

-- content of this size is still to come
abbrev pub AwaitsContent : BodySize → Type 0
AwaitsContent (Known size) = 0 < size
AwaitsContent Empty = ⊥
AwaitsContent Unknown = Unit {0}

-- ---- why nothing is seen

-- the size is above the limit
abbrev pub IsAbove : ℕ → BodySize → Type 0
IsAbove most (Known size) = most < size
IsAbove most Empty = ⊥
IsAbove most Unknown = ⊥

-- the content is longer than the limit: by the head, or by what has come of it
abbrev pub IsTooLarge : Scouted → List ℕ → Event RequestSpans → Type 0
IsTooLarge old input (events.Head r) = IsAbove old.most (unread_size (reading old.server))
IsTooLarge old input (events.Data s) = old.most < length (old.content ++ span_bytes input s)
IsTooLarge old input event = ⊥

-- a read found a content that is too large
pub record FindsTooLarge (old : Scouted) (input : List ℕ) : Type 0 where
  pub spans : List HeaderSpan
  pub read : Progress RequestSpans
  pub server : Server
  pub reads : ServerReads old.server input spans server read
  pub too_large : IsTooLarge (record old { server = server }) input read.event

abbrev pub IsWhyNone : Scouted → List ℕ → Refusal → Type 0
IsWhyNone old input (Unreadable error) = ServerRefuses old.server input MAX_HEADERS error
IsWhyNone old input TooLarge = FindsTooLarge old input
IsWhyNone old input NoMemory = Unit {0}

-- for private clauses
abbrev pub IsWhyNoHead : Scouted → Refusal → Type 0
IsWhyNoHead old (Unreadable error) = ⊥
IsWhyNoHead old TooLarge = IsAbove old.most (unread_size (reading old.server))
IsWhyNoHead old NoMemory = Unit {0}

abbrev pub IsWhyNoPiece : Scouted → List ℕ → Refusal → Type 0
IsWhyNoPiece old piece (Unreadable error) = ⊥
IsWhyNoPiece old piece TooLarge = old.most < length (old.content ++ piece)
IsWhyNoPiece old piece NoMemory = Unit {0}

-- what a call that writes came to, but for want of memory: it was taken, or refused
abbrev pub IsTaken : Result (Unit {0}) WriteError → Bool → Type 0
IsTaken written true = written ≡ Ok tt
IsTaken written false = (e : WriteError) × (e ≢ OutOfMemory) × (written ≡ Err e)
