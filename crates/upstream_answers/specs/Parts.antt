-- for private clauses: the head of an answer, and the content after it
use Rattle.std.specs.Prelude.{◌≡◌, ℕ, ◌<◌, ◌≤◌, ◌↔◌, List, ◌++◌, drop, length, Option, Some, None}
use Rattle.httparse.specs.Grammar.{HasNoResponse, ResponseHead, status_code}
use Rattle.http1.specs.declared.decode.Decoder.{Decoder}
use Rattle.http1.specs.declared.framing.Framing.{Framing}
use Rattle.http1.specs.declared.framing.MethodKind.TheVariants.{Other}
use Rattle.http1.specs.Body.{Body}
use Rattle.http1.specs.Decoder.{Completes}
use Rattle.http1.specs.Message.{AcceptsResponse}
use Rattle.spec_service.specs.UpstreamAnswer.{limits}
use Rattle.upstream_answers.specs.declared.head.AnswerHead.{AnswerHead}
use Rattle.upstream_answers.specs.declared.head.Front as fronts
use Rattle.upstream_answers.specs.declared.head.Front.TheVariants.{Head, NoHead, Part}
use Rattle.spec_service.specs.declared.upstream_limits.TheConstants.{MOST_CONTENT, MOST_FIELDS}

-- the head of a response to GET with this framing, no interim one and within the limits, and the rest after it
pub record TakesHead (received : List ℕ) (head : ResponseHead) (framing : Framing) (rest : List ℕ) : Type 0 where
  pub accepts : AcceptsResponse limits Other received head framing rest
  pub is_final : 200 ≤ status_code head
  pub fields : length head.fields ≤ MOST_FIELDS

-- the bytes begin with this head
pub record IsHeadOf (received : List ℕ) (found : AnswerHead) : Type 0 where
  pub head : ResponseHead
  pub takes : TakesHead received head found.framing (drop found.len received)
  pub status_is : found.status ≡ status_code head
  pub within : found.len ≤ length received

-- whatever follows, the bytes begin with no head
abbrev pub NeverHasHead : List ℕ → Type 0
NeverHasHead received =
    (more : List ℕ) (head : ResponseHead) (framing : Framing) (rest : List ℕ)
    → ¬ (TakesHead (received ++ more) head framing rest)

-- what the bytes begin with
abbrev pub IsFrontOf : List ℕ → fronts.Front → Type 0
IsFrontOf received (Head found) = IsHeadOf received found
IsFrontOf received Part = HasNoResponse received
IsFrontOf received NoHead = NeverHasHead received

-- the unread bytes begin with a body that the decoder waits for, and with what was read before it is this content
pub record HasContent (decoder : Decoder) (unread before whole : List ℕ) : Type 0 where
  pub body : Body
  pub rest : List ℕ
  pub completes : Completes decoder unread body rest
  pub trailers : length body.trailers ≤ MOST_FIELDS
  pub content_is : whole ≡ before ++ body.bytes
  pub size : length whole ≤ MOST_CONTENT

-- what one look at the unread bytes finds: a piece, after which no other content is waited for, or the end
abbrev pub Finds : Decoder → List ℕ → List ℕ → Decoder → Option (List ℕ) → List ℕ → Type 0
Finds old unread before new (Some rest) content =
    ((whole : List ℕ) → HasContent old unread before whole ↔ HasContent new rest content whole)
    × (length rest < length unread) × (length content ≤ MOST_CONTENT)
Finds old unread before new None content = HasContent old unread before content
