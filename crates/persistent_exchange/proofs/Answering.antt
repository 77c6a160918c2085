-- Each answer is for its own request.
use Rattle.std.proofs.Common.{◌≡◌, ◌≢◌, ℕ, Bool, true, false, List, [], ◌∷◌, ◌++◌, length, map, refl, sym, ap, subst, subst₂, ◌∙◌, arith, append-nil}
use Rattle.std.proofs.Math.Logic.{∥∥₁_map}
use Rattle.http1.specs.Message.{ReadsRequestMessage, ReadsRequests, Request}
use Rattle.http1.proofs.OneParse.{request_message_unique}
use Rattle.http_server.specs.Exchange.{Call, Calls, ReadsCall, Serves}
use Rattle.http_server.specs.History.{History, IsServed, Justifies, Stands}
use Rattle.http_server.specs.declared.state.Config.{Config}
use Rattle.http_server.specs.declared.state.Reason.TheVariants as reasons
use Rattle.http_server.specs.declared.state.Refusal.{Refusal}
use Rattle.http_server.specs.declared.state.Refusal.TheVariants as refusals
use Rattle.http_server.specs.declared.state.State.{State}
use Rattle.http_server.specs.declared.state.State.TheVariants as states
use Rattle.http_server.proofs.StreamLemmas.{ReadsRequestMessage-append}
use Rattle.spec_service.specs.StreamAnswering.{AnswersNext, AreFor, CallsAreForTheSeen, CallsFor, IsFor, IsNext, called, refused}
use Rattle.spec_service.specs.Persistent.{Persistent, received}
use Rattle.persistent_exchange.specs.Preparing.{AnswerOnce, AnswersOnce}
use Rattle.spec_service.specs.Stream.{Asked, asked_in}
use Rattle.persistent_exchange.proofs.Streams.{seen_are_the_requests}

-- ---- the answer that is passed on

-- an answer that was not given yet is given to one call at most, and says whether it was
pub answers_once : (a b : AnswerOnce) (old new : List Call) → a.is_used ≡ false → Calls AnswersOnce a b old new
    → (AnswersNext a.answer old new) × (b.is_used ≡ true → (c : Call) × (new ≡ old ++ c ∷ []))
answers_once a b old new unused ([], after, same) = (
  refused (after ∙ append-nil old),
  λ used. absurd (let is = ap (λ (s : AnswerOnce). s.is_used) same in cc),
)
answers_once a b old new unused (c ∷ [], after, chain) =
    (called c after chain.1.is_prepared, λ used. (c, after))
answers_once a b old new unused (c ∷ d ∷ calls, after, chain) =
    absurd (let was = chain.2.1.was_unused in let is = ap (λ (s : AnswerOnce). s.is_used) chain.1.new_is in cc)

-- ---- the requests that are answered

for_none : (asked : List Asked) → AreFor asked []
for_none [] = tt
for_none (a ∷ asked) = tt

module _ (config : Config) (more end : List ℕ) where
  -- the call for the first request of a stream, and what follows it there
  one_for : (stream : List ℕ) (message m : Request) (c : Call) (after next : List ℕ)
      → ReadsCall config stream message c.0 after → ReadsRequestMessage config.limits (stream ++ more) m next
      → IsFor (asked_in m) c × (after ++ more ≡ next)
  one_for stream message m c after next call reads =
      let same = request_message_unique config.limits (stream ++ more) message m (after ++ more) next
      (ReadsRequestMessage-append call.reads more) reads in
      (record { message = message; parts = call.parts; content = call.body; asks = ap asked_in (sym same.0) }, same.1)

  -- the calls that were answered
  served_for : (calls : List Call) (ms : List Request) (stream text rest : List ℕ) → Serves config stream calls text rest
      → ReadsRequests config.limits (stream ++ more) ms end → AreFor (map asked_in ms) calls
  served_for calls [] stream text rest serves reads = tt
  served_for [] (m ∷ ms) stream text rest serves reads = tt
  served_for (c ∷ calls) (m ∷ ms) stream text rest (first, after, later, text_is, exchange, others) (next, one, reads) =
      let found = one_for stream exchange.message m c after next exchange.request one in (
        found.0,
        served_for calls ms after later rest others
            (subst (λ (s : List ℕ). ReadsRequests config.limits s ms end) (sym found.1) reads),
      )

  -- those, and one more
  then_for : (calls : List Call) (ms : List Request) (stream text rest : List ℕ) (c : Call) (message : Request)
      (after : List ℕ) → Serves config stream calls text rest → ReadsCall config rest message c.0 after
      → ReadsRequests config.limits (stream ++ more) ms end → AreFor (map asked_in ms) (calls ++ c ∷ [])
  then_for calls [] stream text rest c message after serves call reads = tt
  then_for [] (m ∷ ms) stream text rest c message after (is, text_is) call (next, one, reads) =
      let read : ReadsCall config stream message c.0 after =
      subst (λ (s : List ℕ). ReadsCall config s message c.0 after) (sym is) call in
      ((one_for stream message m c after next read one).0, for_none (map asked_in ms))
  then_for (d ∷ calls) (m ∷ ms) stream text rest c message after (first, middle, later, text_is, exchange, others) call (next, one, reads) =
      let found = one_for stream exchange.message m d middle next exchange.request one in (
        found.0,
        then_for calls ms middle later rest c message after others call
            (subst (λ (s : List ℕ). ReadsRequests config.limits s ms end) (sym found.1) reads),
      )

  module _ (h : History) (ms : List Request) (answered : List Call) (text rest : List ℕ)
      (serves : Serves config h.received answered text rest)
      (reads : ReadsRequests config.limits (h.received ++ more) ms end) where
    abbrev Is : List Call → Type 0
    Is calls = AreFor (map asked_in ms) calls

    no_more : h.calls ≡ answered → Is h.calls
    no_more is = subst Is (sym is) (served_for answered ms h.received text rest serves reads)

    one_more : (c : Call) (message : Request) (after : List ℕ) → ReadsCall config rest message c.0 after
        → h.calls ≡ answered ++ c ∷ [] → Is h.calls
    one_more c message after call is =
        subst Is (sym is) (then_for answered ms h.received text rest c message after serves call reads)

    after_refusal : (why : Refusal) → Justifies why config h answered rest → Is h.calls
    after_refusal refusals.Truncated x = no_more x.0
    after_refusal (refusals.Unreadable e) x = no_more x.0
    after_refusal refusals.BodyTooLarge x = no_more x.0
    after_refusal (refusals.InvalidPart e) x = no_more x.0
    after_refusal refusals.InvalidHost x = no_more x.0
    after_refusal refusals.UnknownCoding x = no_more x.0
    after_refusal (refusals.InvalidResponse e) (after, last, why) =
        one_more last.call last.message after last.request last.calls

    in_state : (interim : List ℕ) (state : State) → state ≢ states.Aborted
        → Stands state config h answered text interim rest → Is h.calls
    in_state interim states.Open not x = no_more x.0
    in_state interim (states.Closing reasons.Asked) not (c, last, after, exchange, calls_are, output_is) =
        one_more c exchange.message after exchange.request calls_are
    in_state interim (states.Closing reasons.EndOfInput) not x = no_more x.0
    in_state interim (states.Closing (reasons.Refused why)) not x = after_refusal why x.0
    in_state interim states.Upgraded not x = one_more x.last.call x.last.message h.unread x.last.request x.last.calls
    in_state interim states.Aborted not x = absurd (not refl)

  -- unless its memory ran out, a server that has served the first requests has called for them
  pub calls_for : (h : History) (ms : List Request) → IsServed config h → h.state ≢ states.Aborted
      → ReadsRequests config.limits (h.received ++ more) ms end → AreFor (map asked_in ms) h.calls
  calls_for h ms served not reads =
      in_state h ms served.answered served.text served.rest served.serves reads served.interim h.state not served.stands

pub calls_are_for_the_seen : CallsAreForTheSeen
calls_are_for_the_seen config h more rest asked last served not looks between =
    let seen = seen_are_the_requests config.limits config.max_body_len (h.received ++ more) rest asked last looks between in
    subst (λ (these : List Asked). AreFor these h.calls) seen.2
    (calls_for config more rest h seen.0 served not seen.1)

-- ---- the next request

-- what is at a place, of those that were called for
at_place : (before : List Asked) (a : Asked) (calls : List Call) (c : Call) → length before ≡ length calls
    → AreFor (before ++ a ∷ []) (calls ++ c ∷ []) → IsFor a c
at_place [] a [] c same are = are.0
at_place [] a (d ∷ calls) c same are = absurd (omega arith)
at_place (b ∷ before) a [] c same are = absurd (omega arith)
at_place (b ∷ before) a (d ∷ calls) c same are = at_place before a calls c (omega arith) are.1

-- the call that is made next is for what was asked
pub calls_for_next : (old new : Persistent) → new.config ≡ old.config → received new ≡ received old
    → ∥ IsServed new.config new.history ∥₁ → (asked : Asked) → IsNext old asked → CallsFor asked old new
calls_for_next old new config_is received_is served asked next c calls_are not =
    let reads : ReadsRequests new.config.limits (new.history.received ++ new.held) next.requests next.rest =
    subst₂ (λ (k : Config) (s : List ℕ). ReadsRequests k.limits s next.requests next.rest) (sym config_is) (sym received_is) next.reads in
    ∥∥₁_map served (λ (s : IsServed new.config new.history).
    at_place next.before asked old.history.calls c next.called
    (subst₂ AreFor next.asked_are calls_are
    (calls_for new.config new.held next.rest new.history next.requests s not reads)))
