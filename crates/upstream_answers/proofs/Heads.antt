-- The head of an answer, and bytes that begin with none.
use Rattle.std.proofs.Common.{◌≡◌, ℕ, ◌<◌, ◌≤◌, List, ◌++◌, length, take, drop, map, Result, Ok, Err, true, false, refl, sym, ap, subst, ◌∙◌, arith}
use Rattle.std.proofs.lemmas.Bool.{false≢true}
use Rattle.httparse.specs.Grammar.{HasNoResponse, ResponseHead, print_response, status_code}
use Rattle.httparse.specs.Spans.{header_bytes, IsResponseAt}
use Rattle.httparse.specs.declared.spans.HeaderSpan.{HeaderSpan}
use Rattle.httparse.specs.declared.spans.ResponseSpans.{ResponseSpans}
use Rattle.httparse.proofs.GrammarLemmas.{response_prefix_free}
use Rattle.http1.specs.declared.framing.Framing.{Framing}
use Rattle.http1.specs.declared.framing.FramingError.{FramingError}
use Rattle.http1.specs.declared.framing.MethodKind.TheVariants.{Other}
use Rattle.http1.specs.Fields.{known_fields}
use Rattle.http1.specs.Framing.{response_framing}
use Rattle.http1.specs.Message.{known_of}
use Rattle.http1.specs.Text.{lf_follows_cr}
use Rattle.http1.proofs.StrictLemmas.{response_too_long, take_front}
use Rattle.upstream_answers.specs.Parts.{IsHeadOf, NeverHasHead, TakesHead}
use Rattle.spec_service.specs.declared.upstream_limits.TheConstants.{MOST_FIELDS, MOST_HEAD}
use Rattle.upstream_answers.proofs.Bodies.{few_fields}

module _ (received : List ℕ) (headers : List HeaderSpan) (spans : ResponseSpans) (head : ResponseHead)
    (found : IsResponseAt received headers spans head) where
  text_is : take spans.len received ≡ print_response head
  text_is = take_front received (print_response head) (drop spans.len received) spans.len found.reads.1 found.len

  -- how the body is framed, by the spans
  abbrev framing_at : Result Framing FramingError
  framing_at =
      response_framing Other spans.code spans.version (known_fields (map (header_bytes received) (take spans.headers headers)))

  framing_is : framing_at ≡ response_framing Other (status_code head) head.minor (known_of head.fields)
  framing_is = rw (found.code, found.version, found.fields) refl

  pub head_taken : (framing : Framing) → length headers ≡ MOST_FIELDS → spans.len ≤ length received
      → spans.len ≤ MOST_HEAD → 200 ≤ spans.code
      → lf_follows_cr 0 (take spans.len received) ≡ true
      → framing_at ≡ Ok framing
      → IsHeadOf received (record { status = spans.code; len = spans.len; framing = framing })
  head_taken framing room within short last strict framed =
      let long = found.len in
      let code = found.code in record {
        head = head;
        takes = record {
          accepts = record {
            reads = found.reads;
            strict = (omega (arith, long, short), ap (lf_follows_cr 0) (sym text_is) ∙ strict);
            status = omega (arith, code, last);
            framed = sym framing_is ∙ framed;
          };
          is_final = omega (arith, code, last);
          fields = few_fields received headers spans.headers head.fields found.fields room;
        };
        status_is = found.code;
        within = within;
      }

  -- whatever follows, no other head is at the front of the bytes
  never : ((more : List ℕ) (framing : Framing) (rest : List ℕ) → TakesHead (received ++ more) head framing rest → ⊥)
      → NeverHasHead received
  never bad more other framing rest takes =
      let same = response_prefix_free received more head other (drop spans.len received) rest found.reads
      takes.accepts.reads in
      bad more framing rest (subst (λ h. TakesHead (received ++ more) h framing rest) (sym same.0) takes)

  pub never_long : MOST_HEAD < spans.len → NeverHasHead received
  never_long long = never (λ more framing rest takes.
      let a = takes.accepts.strict.0 in
      let b = found.len in
      omega (arith, a, b, long))

  pub never_interim : spans.code < 200 → NeverHasHead received
  never_interim early = never (λ more framing rest takes.
      let a = takes.is_final in
      let b = found.code in
      omega (arith, a, b, early))

  pub never_bare : lf_follows_cr 0 (take spans.len received) ≡ false → NeverHasHead received
  never_bare bare = never (λ more framing rest takes.
      false≢true (sym bare ∙ ap (lf_follows_cr 0) text_is ∙ takes.accepts.strict.1))

  pub never_framed : (e : FramingError) → framing_at ≡ Err e → NeverHasHead received
  never_framed e unframed = never (λ more framing rest takes.
      let is = sym takes.accepts.framed ∙ sym framing_is ∙ unframed in
      cc)

-- no head is whole in the bytes, and there is no room for one that is not
pub never_in_room : (received : List ℕ) → HasNoResponse received → MOST_HEAD ≤ length received
    → NeverHasHead received
never_in_room received none full more head framing rest takes =
    let accepts = takes.accepts in
    let many = response_too_long MOST_HEAD MOST_FIELDS received none full more head rest accepts.reads accepts.strict in
    let few = takes.fields in
    omega (arith, many, few)
