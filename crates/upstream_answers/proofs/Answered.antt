-- A head and the content after it are an answer, and no other is.
use Rattle.std.proofs.Common.{◌≡◌, ◌≢◌, ℕ, List, [], drop, sym, ap, subst, subst₂, refl, ◌∙◌, arith}
use Rattle.std.proofs.lemmas.List.{append-nil}
use Rattle.httparse.specs.Grammar.{status_code}
use Rattle.httparse.proofs.GrammarLemmas.{response_unique}
use Rattle.http1.specs.declared.framing.MethodKind.TheVariants.{Other}
use Rattle.http1.specs.Body.{ReadsBody}
use Rattle.http1.specs.Decoder.{decoder_for}
use Rattle.http1.specs.Framing.{response_framing}
use Rattle.http1.specs.Message.{AcceptsResponse, known_of}
use Rattle.http1.proofs.OneParse.{body_from_completes, completes_from_body}
use Rattle.spec_service.specs.UpstreamAnswer.{IsAnswer, limits}
use Rattle.upstream_answers.specs.Parts.{HasContent, IsFrontOf, IsHeadOf}
use Rattle.upstream_answers.specs.declared.head.AnswerHead.{AnswerHead}
use Rattle.upstream_answers.specs.declared.head.Front as fronts
use Rattle.upstream_answers.specs.declared.head.Front.TheVariants.{Head, NoHead, Part}

module _ (received : List ℕ) (found : AnswerHead) (is : IsHeadOf received found) where
  pub answer_of : (content : List ℕ)
      → HasContent (decoder_for limits found.framing) (drop found.len received) [] content
      → IsAnswer received found.status content
  answer_of content has = record {
    response = record { head = is.head; body = has.body };
    rest = has.rest;
    reads = record {
      framing = found.framing;
      after_head = drop found.len received;
      head = is.takes.accepts;
      body = body_from_completes limits found.framing (drop found.len received) has.body has.rest has.completes;
    };
    status_is = is.status_is;
    content_is = has.content_is;
    is_final = let same = is.status_is in let last = is.takes.is_final in omega (arith, same, last);
    fields = is.takes.fields;
    trailers = has.trailers;
    size = has.size;
  }

  -- an answer has this head, and its content follows it
  pub content_in : (status : ℕ) (content : List ℕ) → IsAnswer received status content
      → HasContent (decoder_for limits found.framing) (drop found.len received) [] content
  content_in status content answer =
      let accepts = answer.reads.head in
      let head = response_unique received answer.response.head is.head answer.reads.after_head (drop found.len received)
      accepts.reads is.takes.accepts.reads in
      let framed = sym accepts.framed
      ∙ ap (λ h. response_framing Other (status_code h) h.minor (known_of h.fields)) head.0
      ∙ is.takes.accepts.framed in
      let framing : answer.reads.framing ≡ found.framing = cc in
      let body : ReadsBody limits found.framing (drop found.len received) answer.response.body answer.rest =
      subst₂ (λ f s. ReadsBody limits f s answer.response.body answer.rest) framing head.1 answer.reads.body in record {
        body = answer.response.body;
        rest = answer.rest;
        completes = completes_from_body limits found.framing (drop found.len received) answer.response.body answer.rest
            body;
        trailers = answer.trailers;
        content_is = answer.content_is;
        size = answer.size;
      }

-- bytes that begin with no head begin with no answer
pub no_answer : (received : List ℕ) (front : fronts.Front) → IsFrontOf received front
    → ((found : AnswerHead) → front ≢ Head found)
    → (status : ℕ) (content : List ℕ) → IsAnswer received status content → ⊥
no_answer received (Head found) is other status content answer = absurd (other found refl)
no_answer received Part is other status content answer =
    is answer.response.head answer.reads.after_head answer.reads.head.reads
no_answer received NoHead is other status content answer =
    let same = answer.status_is in
    let last = answer.is_final in
    let head = answer.response.head in
    let framing = answer.reads.framing in
    let after = answer.reads.after_head in
    is [] head framing after (record {
      accepts = subst (λ s. AcceptsResponse limits Other s head framing after) (sym (append-nil received))
          answer.reads.head;
      is_final = omega (arith, same, last);
      fields = answer.fields;
    })
