-- The requests that were seen of a stream are its first ones.
use Rattle.std.proofs.Common.{◌≡◌, ◌≢◌, ◌⊎◌, ℕ, Bool, true, false, cond, List, [], ◌∷◌, ◌++◌, map, drop, Result, Ok, Err, append_assoc, append-nil, refl, sym, ap, ◌∙◌, subst, subst₂}
use Rattle.httparse.specs.Spans.{span_bytes}
use Rattle.httparse.specs.declared.spans.HeaderSpan.{HeaderSpan}
use Rattle.httparse.specs.declared.spans.RequestSpans.{RequestSpans}
use Rattle.httparse.specs.declared.spans.Span.{Span}
use Rattle.http1.specs.Conn.{Plan, ReadsPiece, is_read}
use Rattle.http1.specs.Decoder.{decoder_for}
use Rattle.http1.specs.Message.{ReadsRequests, Request}
use Rattle.http1.specs.Server.{ReadsHead, ReadsAt, after_end, after_piece, closed_server, cycle, new_server, responding, response_plan, with_writing}
use Rattle.http1.specs.ServerTrace.{IsBetween, Seen, SeenRequest, Trace, Writes, finishes, no_body, observe, reads, request_view, responds, stops, writes}
use Rattle.http1.specs.declared.conn.BodySize.TheVariants.{Empty}
use Rattle.http1.specs.declared.conn.Event.{Event}
use Rattle.http1.specs.declared.conn.Event.TheVariants as events
use Rattle.http1.specs.declared.conn.Limits.{Limits}
use Rattle.http1.specs.declared.conn.Progress.{Progress}
use Rattle.http1.specs.declared.conn.Reading.{Reading}
use Rattle.http1.specs.declared.conn.Reading.TheVariants as readings
use Rattle.http1.specs.declared.conn.Writing.{Writing}
use Rattle.http1.specs.declared.conn.Writing.TheVariants as writings
use Rattle.http1.specs.declared.decode.Decoder.{Decoder}
use Rattle.http1.specs.declared.error.WriteError.{WriteError}
use Rattle.http1.specs.declared.server.Server.{Server}
use Rattle.http1.proofs.ServerTraceLemmas.{trace_reads_requests}
use Rattle.spec_service.specs.Scouting.{Finds, IsAfterAnswer, Scouted, Sees, Turns, adds, answered, begins, closed, ends, no_answer, no_end, paused, responded, upgraded, waits}
use Rattle.spec_service.specs.Stream.{Asked, Looks, SeenAreTheRequests, asked_in, asked_of, ended, more, new_scouted, none, taken}
use Rattle.spec_service.specs.declared.sighting.Sighting.{Sighting}
use Rattle.spec_service.specs.declared.sighting.Sighting.TheVariants as sightings

abbrev asked_in_view : SeenRequest → Asked
asked_in_view r = record { method = r.method; target = r.target; content = r.body.bytes }

-- what will have been asked, by what is seen from here on: in a content it is the rest of that
abbrev asked_with : Reading → Scouted → Seen → List Asked
asked_with (readings.Body d) s seen =
    record { method = s.method; target = s.target; content = s.content ++ seen.body.bytes } ∷ map asked_in_view seen.requests
asked_with _ s seen = map asked_in_view seen.requests

-- a server that has written nothing for the request that it reads
abbrev IsQuiet : Reading → Server → Type 0
IsQuiet readings.Head s = s.writing ≡ writings.Head
IsQuiet (readings.Body d) s = s.writing ≡ writings.Head
IsQuiet readings.Done s = Unit {0}
IsQuiet readings.Upgraded s = Unit {0}
IsQuiet readings.Closed s = Unit {0}
IsQuiet (readings.Failed e) s = Unit {0}

-- what the looks from here on came to
record Comes (s : Scouted) (stream : List ℕ) (asked : List Asked) (rest : List ℕ) : Type 0 where
  seen : Seen
  trace : Trace s.server stream seen rest
  asked_is : asked ≡ asked_with s.server.reading s seen

abbrev NotInBody : Reading → Type 0
NotInBody (readings.Body d) = ⊥
NotInBody _ = Unit {0}

asked_out : (r : Reading) (s : Scouted) (seen : Seen) → NotInBody r → asked_with r s seen ≡ map asked_in_view seen.requests
asked_out readings.Head s seen out = refl
asked_out (readings.Body d) s seen out = absurd out
asked_out readings.Done s seen out = refl
asked_out readings.Upgraded s seen out = refl
asked_out readings.Closed s seen out = refl
asked_out (readings.Failed e) s seen out = refl

between_is_out : (r : Reading) → IsBetween r → NotInBody r
between_is_out readings.Head between = tt
between_is_out (readings.Body d) between = absurd between
between_is_out readings.Done between = tt
between_is_out readings.Upgraded between = tt
between_is_out readings.Closed between = tt
between_is_out (readings.Failed e) between = tt

-- a piece is read by a server that has written nothing
piece_read : (s : Server) (input : List ℕ) (next : Reading) → s.writing ≡ writings.Head
    → ((after_piece s input next).reading ≡ next) × ((after_piece s input next).writing ≡ writings.Head)
piece_read s input next quiet = (cc, cc)

-- how the scout goes on after bytes that end no request
record Goes (r : Reading) (s : Scouted) (input : List ℕ) (spans : List HeaderSpan) (e : Event RequestSpans) (t : Scouted)
    (server : Server) : Type 0 where
  same : t.server ≡ server
  quiet : IsQuiet t.server.reading t.server
  asks : (seen : Seen) → asked_with t.server.reading t seen ≡ asked_with r s (observe input spans e seen)

module _ (s : Scouted) (input : List ℕ) (spans : List HeaderSpan) (server : Server) (read : Progress RequestSpans) where
  abbrev Reads : Reading → Type 0
  Reads r = ReadsAt r s.server input spans server read

  -- where the server is as it was
  stays : (r : Reading) (e : Event RequestSpans) (t : Scouted) → s.server.reading ≡ r → IsQuiet r s.server
      → server ≡ s.server → t ≡ record s { server = server }
      → ((seen : Seen) → observe input spans e seen ≡ seen) → Goes r s input spans e t server
  stays r e t is quiet kept t_is plain =
      let whole : t ≡ s = t_is ∙ ap (λ (v : Server). record s { server = v }) kept in
      record {
        same = ap (λ (v : Scouted). v.server) t_is;
        quiet = subst (λ (v : Scouted). IsQuiet v.server.reading v.server) (sym whole)
            (subst (λ (q : Reading). IsQuiet q s.server) (sym is) quiet);
        asks = λ seen. ap (λ (v : Scouted). asked_with v.server.reading v seen) whole
            ∙ ap (λ (q : Reading). asked_with q s seen) is ∙ ap (asked_with r s) (sym (plain seen));
      }

  waits_on : (r : Reading) (t : Scouted) → s.server.reading ≡ r → IsQuiet r s.server → read.event ≡ events.NeedMore
      → Reads r → t ≡ record s { server = server } → Goes r s input spans events.NeedMore t server
  waits_on readings.Head t is quiet e x t_is =
      let found = subst (ReadsHead s.server input spans server read.consumed) e x in
      stays readings.Head events.NeedMore t is quiet found.1 t_is (λ seen. refl)
  waits_on (readings.Body d) t is quiet e x t_is =
      let found = subst (ReadsPiece d input spans x.0 read.consumed) e x.1 in
      let piece = piece_read s.server input x.0 quiet in
      let at : t.server.reading ≡ readings.Body found.0 =
      ap (λ (v : Scouted). v.server.reading) t_is ∙ ap (λ (v : Server). v.reading) x.2 ∙ piece.0 ∙ found.1 in
      record {
        same = ap (λ (v : Scouted). v.server) t_is;
        quiet = subst (λ (q : Reading). IsQuiet q t.server) (sym at)
            (ap (λ (v : Scouted). v.server.writing) t_is ∙ ap (λ (v : Server). v.writing) x.2 ∙ piece.1);
        asks = λ seen. ap (λ (q : Reading). asked_with q t seen) at
            ∙ ap (λ (v : Scouted). asked_with (readings.Body found.0) v seen) t_is;
      }
  waits_on readings.Done t is quiet e x t_is = let same = x.0 in absurd (cc)
  waits_on readings.Upgraded t is quiet e x t_is = let same = x.0 in absurd (cc)
  waits_on readings.Closed t is quiet e x t_is = let same = x.0 in absurd (cc)
  waits_on (readings.Failed f) t is quiet e x t_is = absurd x

  begins_on : (r : Reading) (h : RequestSpans) (t : Scouted) → s.server.reading ≡ r → IsQuiet r s.server
      → read.event ≡ events.Head h → Reads r
      → t ≡ record s { server = server; method = span_bytes input h.method; target = span_bytes input h.path; content = [] }
      → Goes r s input spans (events.Head h) t server
  begins_on readings.Head h t is quiet e x t_is =
      let found = subst (ReadsHead s.server input spans server read.consumed) e x in
      let d : Decoder = decoder_for s.server.limits found.framing in
      let at : t.server.reading ≡ readings.Body d =
      ap (λ (v : Scouted). v.server.reading) t_is ∙ ap (λ (v : Server). v.reading) found.next in
      record {
        same = ap (λ (v : Scouted). v.server) t_is;
        quiet = subst (λ (q : Reading). IsQuiet q t.server) (sym at)
            (ap (λ (v : Scouted). v.server.writing) t_is ∙ ap (λ (v : Server). v.writing) found.next ∙ quiet);
        asks = λ seen. ap (λ (q : Reading). asked_with q t seen) at
            ∙ ap (λ (v : Scouted). asked_with (readings.Body d) v seen) t_is;
      }
  begins_on (readings.Body d) h t is quiet e x t_is =
      absurd (subst (ReadsPiece d input spans x.0 read.consumed) e x.1)
  begins_on readings.Done h t is quiet e x t_is = let same = x.0 in absurd (cc)
  begins_on readings.Upgraded h t is quiet e x t_is = let same = x.0 in absurd (cc)
  begins_on readings.Closed h t is quiet e x t_is = let same = x.0 in absurd (cc)
  begins_on (readings.Failed f) h t is quiet e x t_is = absurd x

  adds_on : (r : Reading) (p : Span) (t : Scouted) → s.server.reading ≡ r → IsQuiet r s.server
      → read.event ≡ events.Data p → Reads r
      → t ≡ record s { server = server; content = s.content ++ span_bytes input p }
      → Goes r s input spans (events.Data p) t server
  adds_on readings.Head p t is quiet e x t_is = absurd (subst (ReadsHead s.server input spans server read.consumed) e x)
  adds_on (readings.Body d) p t is quiet e x t_is =
      let found = subst (ReadsPiece d input spans x.0 read.consumed) e x.1 in
      let piece = piece_read s.server input x.0 quiet in
      let at : t.server.reading ≡ readings.Body found.0 =
      ap (λ (v : Scouted). v.server.reading) t_is ∙ ap (λ (v : Server). v.reading) x.2 ∙ piece.0 ∙ found.1 in
      record {
        same = ap (λ (v : Scouted). v.server) t_is;
        quiet = subst (λ (q : Reading). IsQuiet q t.server) (sym at)
            (ap (λ (v : Scouted). v.server.writing) t_is ∙ ap (λ (v : Server). v.writing) x.2 ∙ piece.1);
        asks = λ seen. ap (λ (q : Reading). asked_with q t seen) at
            ∙ ap (λ (v : Scouted). asked_with (readings.Body found.0) v seen) t_is
            ∙ ap (λ (b : List ℕ). record { method = s.method; target = s.target; content = b } ∷ map asked_in_view seen.requests)
            (append_assoc s.content (span_bytes input p) seen.body.bytes);
      }
  adds_on readings.Done p t is quiet e x t_is = let same = x.0 in absurd (cc)
  adds_on readings.Upgraded p t is quiet e x t_is = let same = x.0 in absurd (cc)
  adds_on readings.Closed p t is quiet e x t_is = let same = x.0 in absurd (cc)
  adds_on (readings.Failed f) p t is quiet e x t_is = absurd x

  -- where no more is read the server is as it was
  over_kept : (r : Reading) (e : Event RequestSpans) → read.event ≡ e → Reads r
      → (ReadsHead s.server input spans server read.consumed e → ⊥)
      → ((d : Decoder) (next : Reading) → ReadsPiece d input spans next read.consumed e → ⊥) → server ≡ s.server
  over_kept readings.Head e is x no_head no_piece =
      absurd (no_head (subst (ReadsHead s.server input spans server read.consumed) is x))
  over_kept (readings.Body d) e is x no_head no_piece =
      absurd (no_piece d x.0 (subst (ReadsPiece d input spans x.0 read.consumed) is x.1))
  over_kept readings.Done e is x no_head no_piece = x.1
  over_kept readings.Upgraded e is x no_head no_piece = x.1
  over_kept readings.Closed e is x no_head no_piece = x.1
  over_kept (readings.Failed f) e is x no_head no_piece = absurd x

  goes_on : (r : Reading) {e : Event RequestSpans} {sighting : Sighting} {t : Scouted} → s.server.reading ≡ r
      → IsQuiet r s.server → read.event ≡ e → Reads r → sighting ≢ sightings.End
      → Sees (record s { server = server }) input e sighting t → Goes r s input spans e t server
  goes_on r is quiet e_is x not (waits t same) = waits_on r t is quiet e_is x same
  goes_on r is quiet e_is x not (begins h t same) = begins_on r h t is quiet e_is x same
  goes_on r is quiet e_is x not (adds p t same) = adds_on r p t is quiet e_is x same
  goes_on r is quiet e_is x not (ends count t same) = absurd (not refl)
  goes_on r is quiet e_is x not (paused t same) =
      stays r events.Paused t is quiet (over_kept r events.Paused e_is x (λ y. y) (λ d next y. y)) same (λ seen. refl)
  goes_on r is quiet e_is x not (upgraded t same) =
      stays r events.Upgraded t is quiet (over_kept r events.Upgraded e_is x (λ y. y) (λ d next y. y)) same (λ seen. refl)
  goes_on r is quiet e_is x not (closed t same) =
      stays r events.Closed t is quiet (over_kept r events.Closed e_is x (λ y. y) (λ d next y. y)) same (λ seen. refl)

  -- an end of a content is that of the request
  ended_on : (r : Reading) (count : ℕ) → s.server.reading ≡ r → IsQuiet r s.server → read.event ≡ events.End count → Reads r
      → (server.reading ≡ readings.Done) × ((seen : Seen)
      → asked_with r s (observe input spans (events.End count) seen) ≡ asked_of s ∷ map asked_in_view seen.requests)
  ended_on readings.Head count is quiet e x = absurd (subst (ReadsHead s.server input spans server read.consumed) e x)
  ended_on (readings.Body d) count is quiet e x =
      let found = subst (ReadsPiece d input spans x.0 read.consumed) e x.1 in (
        ap (λ (v : Server). v.reading) x.2 ∙ (piece_read s.server input x.0 quiet).0 ∙ found.0,
        λ seen. ap (λ (b : List ℕ). record { method = s.method; target = s.target; content = b } ∷ map asked_in_view seen.requests)
            (append-nil s.content),
      )
  ended_on readings.Done count is quiet e x = let same = x.0 in absurd (cc)
  ended_on readings.Upgraded count is quiet e x = let same = x.0 in absurd (cc)
  ended_on readings.Closed count is quiet e x = let same = x.0 in absurd (cc)
  ended_on (readings.Failed f) count is quiet e x = absurd x

-- what is seen as an end is one
ends_at : {old : Scouted} {input : List ℕ} {e : Event RequestSpans} {sighting : Sighting} {t : Scouted}
    → Sees old input e sighting t → sighting ≡ sightings.End → (count : ℕ) × (e ≡ events.End count) × Turns old t
ends_at (waits t same) is = absurd (cc)
ends_at (begins h t same) is = absurd (cc)
ends_at (adds p t same) is = absurd (cc)
ends_at (ends count t turns) is = (count, refl, turns)
ends_at (paused t same) is = absurd (cc)
ends_at (upgraded t same) is = absurd (cc)
ends_at (closed t same) is = absurd (cc)

-- ---- after the end of a request

-- the reading of a server that has read a request is over, or begins anew, once it was answered
after_done : (keeps : Bool) (s : Server) → s.reading ≡ readings.Done
    → NotInBody (cond keeps (cond (is_read s.reading) (new_server s.limits) s) (closed_server s)).reading
    × IsQuiet (cond keeps (cond (is_read s.reading) (new_server s.limits) s) (closed_server s)).reading
    (cond keeps (cond (is_read s.reading) (new_server s.limits) s) (closed_server s))
after_done true s is = rw is (tt, refl)
after_done false s is = (tt, tt)

done_is_out : (s : Server) → s.reading ≡ readings.Done → NotInBody s.reading × IsQuiet s.reading s
done_is_out s is = rw is (tt, tt)

-- an answer is no reading
responding_reads_nothing : (s : Server) (p : Result Plan WriteError) → (responding s p).reading ≡ s.reading
responding_reads_nothing s (Ok p) = refl
responding_reads_nothing s (Err e) = refl

answer_reads_nothing : (s : Server) → (responded s).reading ≡ s.reading
answer_reads_nothing s = responding_reads_nothing s (response_plan s 200 Empty [])

answered_is_out : (s t : Server) → s.reading ≡ readings.Done → IsAfterAnswer s t → NotInBody t.reading × IsQuiet t.reading t
answered_is_out s t is (answered a b) =
    after_done _ (with_writing (responded s) writings.Done) (answer_reads_nothing s ∙ is)
answered_is_out s t is (no_end e a b) = done_is_out (responded s) (answer_reads_nothing s ∙ is)
answered_is_out s t is (no_answer e a) = done_is_out s is

-- the trace from a server that was answered is one from that server before
answered_trace : (s t : Server) (stream : List ℕ) (seen : Seen) (rest : List ℕ) → IsAfterAnswer s t
    → Trace t stream seen rest → Trace s stream seen rest
answered_trace s t stream seen rest (answered a b) x =
    writes s (responded s) stream seen rest (responds 200 Empty [])
    (writes (responded s) (after_end (responded s)) stream seen rest finishes x)
answered_trace s t stream seen rest (no_end e a b) x = writes s (responded s) stream seen rest (responds 200 Empty []) x
answered_trace s t stream seen rest (no_answer e a) x = x

-- ---- a whole stream

-- nothing more is seen
comes_to_nothing : (s : Scouted) (stream : List ℕ) → IsBetween s.server.reading → Comes s stream [] stream
comes_to_nothing s stream between = record {
  seen = record { body = no_body; requests = [] };
  trace = stops s.server stream between;
  asked_is = sym (asked_out s.server.reading s (record { body = no_body; requests = [] }) (between_is_out s.server.reading between));
}

-- a request ends, and nothing more is seen
comes_to_an_end : (s t : Scouted) (input after : List ℕ) (consumed : ℕ) → IsQuiet s.server.reading s.server
    → Finds s input consumed sightings.End t
    → Comes s (input ++ after) (asked_of t ∷ []) (drop consumed input ++ after)
comes_to_an_end s t input after consumed quiet found =
    let end = ends_at found.sees refl in
    let on = ended_on s input found.spans found.server found.read s.server.reading end.0 refl quiet end.1 found.reads in
    let nothing : Seen = record { body = no_body; requests = [] } in
    record {
      seen = observe input found.spans found.read.event nothing;
      trace = reads s.server found.server input after found.spans found.read nothing (drop consumed input ++ after) found.reads
          (subst (λ (n : ℕ). Trace found.server (drop n input ++ after) nothing (drop consumed input ++ after)) found.consumed_is
          (stops found.server (drop consumed input ++ after) (subst IsBetween (sym on.0) tt)));
      asked_is =
          ap (λ (v : Scouted). asked_of v ∷ []) end.2.new_is ∙ sym (on.1 nothing)
          ∙ ap (λ (e : Event RequestSpans). asked_with s.server.reading s (observe input found.spans e nothing)) (sym end.1);
    }

-- what the looks came to, and what comes then
comes_then : {s last : Scouted} {stream middle rest : List ℕ} {asked later : List Asked} → Looks s stream asked last middle
    → IsQuiet s.server.reading s.server → (IsQuiet last.server.reading last.server → Comes last middle later rest)
    → Comes s stream (asked ++ later) rest
comes_then (none s stream) quiet then = then quiet
comes_then {rest} (more s t u input after middle asked consumed sighting not found looks) quiet then =
    let on = goes_on s input found.spans found.server found.read s.server.reading refl quiet refl found.reads not found.sees in
    let next = comes_then looks on.quiet then in
    record {
      seen = observe input found.spans found.read.event next.seen;
      trace = reads s.server found.server input after found.spans found.read next.seen rest found.reads
          (subst₂ (λ (v : Server) (n : ℕ). Trace v (drop n input ++ after) next.seen rest) on.same found.consumed_is next.trace);
      asked_is = next.asked_is ∙ on.asks next.seen;
    }
comes_then {rest} (ended s t u input after middle asked consumed found looks) quiet then =
    let end = ends_at found.sees refl in
    let on = ended_on s input found.spans found.server found.read s.server.reading end.0 refl quiet end.1 found.reads in
    let turns = end.2 in
    let out = answered_is_out found.server turns.server on.0 turns.after in
    let server_is : turns.server ≡ t.server = sym (ap (λ (v : Scouted). v.server) turns.new_is) in
    let next = comes_then looks (subst (λ (v : Server). IsQuiet v.reading v) server_is out.1) then in
    record {
      seen = observe input found.spans found.read.event next.seen;
      trace = reads s.server found.server input after found.spans found.read next.seen rest found.reads
          (answered_trace found.server turns.server (drop found.read.consumed input ++ after) next.seen rest turns.after
          (subst₂ (λ (v : Server) (n : ℕ). Trace v (drop n input ++ after) next.seen rest) (sym server_is) found.consumed_is next.trace));
      asked_is =
          ap (λ (these : List Asked). asked_of t ∷ these)
          (next.asked_is ∙ asked_out t.server.reading (taken t) next.seen (subst (λ (v : Server). NotInBody v.reading) server_is out.0))
          ∙ ap (λ (v : Scouted). asked_of v ∷ map asked_in_view next.seen.requests) turns.new_is
          ∙ sym (on.1 next.seen)
          ∙ ap (λ (e : Event RequestSpans). asked_with s.server.reading s (observe input found.spans e next.seen)) (sym end.1);
    }

view_map : (ms : List Request) → map asked_in ms ≡ map asked_in_view (map request_view ms)
view_map [] = refl
view_map (m ∷ ms) = ap (λ (later : List Asked). asked_in m ∷ later) (view_map ms)

-- what came to requests reads them
reads_them : (limits : Limits) (most : ℕ) (stream rest : List ℕ) (asked : List Asked)
    → Comes (new_scouted limits most) stream asked rest
    → (ms : List Request) × ReadsRequests limits stream ms rest × (map asked_in ms ≡ asked)
reads_them limits most stream rest asked c =
    let found = trace_reads_requests limits stream c.seen rest c.trace in
    (found.0, found.1, view_map found.0 ∙ ap (map asked_in_view) found.2 ∙ sym c.asked_is)

pub seen_are_the_requests : SeenAreTheRequests
seen_are_the_requests limits most stream rest asked last looks between =
    let c = comes_then looks refl (λ quiet. comes_to_nothing last rest between) in
    let found = reads_them limits most stream rest (asked ++ []) c in
    (found.0, found.1, found.2 ∙ append-nil asked)

-- The requests that were seen before one, and that one, once its end was seen, are the first ones of the stream.
pub seen_with_its_end : (limits : Limits) (most : ℕ) (stream input after : List ℕ) (asked : List Asked) (last t : Scouted)
    (consumed : ℕ) → Looks (new_scouted limits most) stream asked last (input ++ after)
    → Finds last input consumed sightings.End t → (ms : List Request)
    × ReadsRequests limits stream ms (drop consumed input ++ after) × (map asked_in ms ≡ asked ++ asked_of t ∷ [])
seen_with_its_end limits most stream input after asked last t consumed looks found =
    reads_them limits most stream (drop consumed input ++ after) (asked ++ asked_of t ∷ [])
    (comes_then looks refl (λ quiet. comes_to_an_end last t input after consumed quiet found))
