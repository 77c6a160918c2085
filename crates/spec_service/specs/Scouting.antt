-- What is seen of the bytes that come next over a connection (RFC 9112, sections 2 to 7, as `http1` has them). How long
-- a content may be is this project's own.
use Rattle.std.specs.Prelude.{◌≡◌, ◌++◌, ℕ, List, [], codes, Some, None}
use Rattle.httparse.specs.Spans.{span_bytes}
use Rattle.httparse.specs.declared.spans.HeaderSpan.{HeaderSpan}
use Rattle.httparse.specs.declared.spans.RequestSpans.{RequestSpans}
use Rattle.httparse.specs.declared.spans.Span.{Span}
use Rattle.http1.specs.Conn.{finish_refusal}
use Rattle.http1.specs.Server.{ServerReads, after_end, after_response, response_refusal, writing}
use Rattle.http1.specs.declared.conn.BodySize.TheVariants.{Empty}
use Rattle.http1.specs.declared.conn.Event.{Event}
use Rattle.http1.specs.declared.conn.Event.TheVariants as events
use Rattle.http1.specs.declared.conn.Progress.{Progress}
use Rattle.http1.specs.declared.error.WriteError.{WriteError}
use Rattle.http1.specs.declared.server.Server.{Server}
use Rattle.spec_service.specs.declared.sighting.Sighting.{Sighting}
use Rattle.spec_service.specs.declared.sighting.Sighting.TheVariants as sightings

-- the head that was seen last, and what has come of its content
pub record Scouted : Type 0 where
  pub server : Server
  pub most : ℕ
  pub method : List ℕ
  pub target : List ℕ
  pub content : List ℕ

-- ---- what is seen

-- a head: what is seen of the request begins anew
abbrev pub Begins : Scouted → List ℕ → RequestSpans → Scouted → Type 0
Begins old input r new =
    new ≡ record old { method = span_bytes input r.method; target = span_bytes input r.path; content = [] }

-- a piece of the content
abbrev pub Adds : Scouted → List ℕ → Scouted → Type 0
Adds old piece new = new ≡ record old { content = old.content ++ piece }

-- the server once it has taken the head of an answer without content
abbrev pub responded : Server → Server
responded s = after_response s 200 Empty []

-- the server once it has taken an answer without content, as far as it takes one
pub data IsAfterAnswer (s : Server) : Server → Type 0 where
  answered : response_refusal s 200 (codes "OK") Empty [] ≡ None → finish_refusal (writing (responded s)) [] ≡ None
      → IsAfterAnswer s (after_end (responded s))
  no_end : (e : WriteError) → response_refusal s 200 (codes "OK") Empty [] ≡ None
      → finish_refusal (writing (responded s)) [] ≡ Some e → IsAfterAnswer s (responded s)
  no_answer : (e : WriteError) → response_refusal s 200 (codes "OK") Empty [] ≡ Some e → IsAfterAnswer s s

-- an end: the server goes on as after an answer
pub record Turns (old new : Scouted) : Type 0 where
  pub server : Server
  pub after : IsAfterAnswer old.server server
  pub new_is : new ≡ record old { server = server }

-- what is seen where the next bytes are this
pub data Sees (old : Scouted) (input : List ℕ) : Event RequestSpans → Sighting → Scouted → Type 0 where
  waits : (new : Scouted) → new ≡ old → Sees old input events.NeedMore sightings.Nothing new
  begins : (r : RequestSpans) (new : Scouted) → Begins old input r new
      → Sees old input (events.Head r) sightings.Head new
  adds : (s : Span) (new : Scouted) → Adds old (span_bytes input s) new
      → Sees old input (events.Data s) sightings.Piece new
  ends : (count : ℕ) (new : Scouted) → Turns old new → Sees old input (events.End count) sightings.End new
  -- no more is read
  paused : (new : Scouted) → new ≡ old → Sees old input events.Paused sightings.Over new
  upgraded : (new : Scouted) → new ≡ old → Sees old input events.Upgraded sightings.Over new
  closed : (new : Scouted) → new ≡ old → Sees old input events.Closed sightings.Over new

-- what is seen of some bytes, and how many of them that is
pub record Finds (old : Scouted) (input : List ℕ) (consumed : ℕ) (sighting : Sighting) (new : Scouted) : Type 0 where
  pub spans : List HeaderSpan
  pub read : Progress RequestSpans
  pub server : Server
  pub reads : ServerReads old.server input spans server read
  pub consumed_is : consumed ≡ read.consumed
  pub sees : Sees (record old { server = server }) input read.event sighting new
