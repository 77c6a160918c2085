-- What a look finds, of what the server read.
use Rattle.std.proofs.Common.{◌≡◌, ◌≢◌, ◌+◌, ◌-◌, ◌≤◌, ◌<◌, ℕ, List, ◌++◌, length, take, min, refl, sym, ap, ◌∙◌, subst, arith, length-append, length-take}
use Rattle.httparse.specs.declared.spans.HeaderSpan.{HeaderSpan}
use Rattle.httparse.specs.declared.spans.RequestSpans.{RequestSpans}
use Rattle.http1.specs.Conn.{ReadsPiece}
use Rattle.http1.specs.Server.{ReadsAt, ReadsHead, ServerReads}
use Rattle.http1.specs.declared.conn.Event.{Event}
use Rattle.http1.specs.declared.conn.Event.TheVariants as events
use Rattle.http1.specs.declared.conn.Progress.{Progress}
use Rattle.http1.specs.declared.conn.Reading.{Reading}
use Rattle.http1.specs.declared.conn.Reading.TheVariants as readings
use Rattle.http1.specs.declared.server.Server.{Server}
use Rattle.httparse.specs.declared.spans.Span.{Span}
use Rattle.httparse.specs.Spans.{span_bytes}
use Rattle.spec_service.specs.Scouting.{Finds, Scouted, Sees, closed, paused, upgraded}
use Rattle.persistent_exchange.specs.Scouting.{FindsTooLarge, IsTooLarge, IsWhyNoHead, IsWhyNoPiece, IsWhyNone}
use Rattle.persistent_exchange.specs.declared.scout.Refusal.{Refusal}
use Rattle.persistent_exchange.specs.declared.scout.Refusal.TheVariants.{NoMemory, TooLarge, Unreadable}
use Rattle.spec_service.specs.declared.sighting.Sighting.{Sighting}
use Rattle.spec_service.specs.declared.sighting.Sighting.TheVariants as sightings

-- `now` is what the caller saw before
module _ (old now : Scouted) (input : List ℕ) (spans : List HeaderSpan) (server : Server) (read : Progress RequestSpans)
    (same : old ≡ now) (reads : ServerReads old.server input spans server read) where
  pub found : (e : Event RequestSpans) (sighting : Sighting) (new : Scouted) → read.event ≡ e
      → Sees (record old { server = server }) input e sighting new → Finds now input read.consumed sighting new
  found e sighting new is sees = subst (λ s. Finds s input read.consumed sighting new) same (record {
    spans = spans;
    read = read;
    server = server;
    reads = reads;
    consumed_is = refl;
    sees = subst (λ x. Sees (record old { server = server }) input x sighting new) (sym is) sees;
  })

  pub found_too_large : (e : Event RequestSpans) → read.event ≡ e → IsTooLarge (record old { server = server }) input e
      → FindsTooLarge now input
  found_too_large e is too_large = subst (λ s. FindsTooLarge s input) same (record {
    spans = spans;
    read = read;
    server = server;
    reads = reads;
    too_large = subst (IsTooLarge (record old { server = server }) input) (sym is) too_large;
  })

-- a server reads no interim answer
never_informs : (r : Reading) (s : Server) (input : List ℕ) (spans : List HeaderSpan) (new : Server)
    (read : Progress RequestSpans) (h : RequestSpans) → read.event ≡ events.Informational h
    → ReadsAt r s input spans new read → ⊥
never_informs readings.Head s input spans new read h is x =
    subst (λ e. ReadsHead s input spans new read.consumed e) is x
never_informs (readings.Body d) s input spans new read h is x =
    subst (λ e. ReadsPiece d input spans x.0 read.consumed e) is x.1
never_informs readings.Done s input spans new read h is x = let same = x.0 in absurd (cc)
never_informs readings.Upgraded s input spans new read h is x = let same = x.0 in absurd (cc)
never_informs readings.Closed s input spans new read h is x = let same = x.0 in absurd (cc)
never_informs (readings.Failed e) s input spans new read h is x = x

module _ (old now : Scouted) (input : List ℕ) (spans : List HeaderSpan) (server : Server) (read : Progress RequestSpans)
    (same : old ≡ now) (reads : ServerReads old.server input spans server read) where
  -- what is no part of a request
  over_at : (e : Event RequestSpans) → read.event ≡ e → e ≢ events.NeedMore → ((h : RequestSpans) → e ≢ events.Head h)
      → ((s : Span) → e ≢ events.Data s) → ((n : ℕ) → e ≢ events.End n)
      → Sees (record old { server = server }) input e sightings.Over (record old { server = server })
  over_at events.NeedMore is a b c d = absurd (a refl)
  over_at (events.Head h) is a b c d = absurd (b h refl)
  over_at (events.Informational h) is a b c d =
      absurd (never_informs old.server.reading old.server input spans server read h is reads)
  over_at (events.Data s) is a b c d = absurd (c s refl)
  over_at (events.End n) is a b c d = absurd (d n refl)
  over_at events.Paused is a b c d = paused _ refl
  over_at events.Upgraded is a b c d = upgraded _ refl
  over_at events.Closed is a b c d = closed _ refl

  pub found_over : read.event ≢ events.NeedMore → ((h : RequestSpans) → read.event ≢ events.Head h)
      → ((s : Span) → read.event ≢ events.Data s) → ((n : ℕ) → read.event ≢ events.End n)
      → Finds now input read.consumed sightings.Over (record old { server = server })
  found_over a b c d =
      found old now input spans server read same reads read.event sightings.Over _ refl (over_at read.event refl a b c d)

  -- why there is no head, or no more of the content, is why nothing is seen
  pub refused_head : (e : Refusal) (r : RequestSpans) → read.event ≡ events.Head r
      → IsWhyNoHead (record old { server = server }) e → IsWhyNone now input e
  refused_head (Unreadable error) r is why = absurd why
  refused_head TooLarge r is why = found_too_large old now input spans server read same reads (events.Head r) is why
  refused_head NoMemory r is why = tt

  pub refused_piece : (e : Refusal) (s : Span) (piece : List ℕ) → read.event ≡ events.Data s → piece ≡ span_bytes input s
      → IsWhyNoPiece (record old { server = server }) piece e → IsWhyNone now input e
  refused_piece (Unreadable error) s piece is piece_is why = absurd why
  refused_piece TooLarge s piece is piece_is why =
      found_too_large old now input spans server read same reads (events.Data s) is
      (subst (λ (t : List ℕ). old.most < length (old.content ++ t)) piece_is why)
  refused_piece NoMemory s piece is piece_is why = tt
