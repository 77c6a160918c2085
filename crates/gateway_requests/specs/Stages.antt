-- For private clauses: what is known of a request in each stage.
use Rattle.std.specs.Prelude.{◌≡◌, ◌<◌, ◌≤◌, ℕ, Bool, true, false, List, [], length, take, drop, nat_le, Ok, Err}
use Rattle.httparse.specs.Grammar.{HasNoRequest, ReadsRequest, RequestHead}
use Rattle.httparse.specs.Spans.{IsWithin, span_bytes}
use Rattle.spec_service.specs.Front.{IsAllowed}
use Rattle.spec_service.specs.declared.limits.TheConstants.{MOST_HEAD, MOST_BODY}
use Rattle.spec_service.specs.Asking.{chosen}
use Rattle.spec_service.specs.declared.action.Action.TheVariants.{Transcode}
use Rattle.gateway_requests.specs.Reception.{TellsEach}
use Rattle.gateway_requests.specs.declared.reception.Headed.{Headed}
use Rattle.gateway_requests.specs.declared.reception.Stage.{Stage}
use Rattle.gateway_requests.specs.declared.reception.Stage.TheVariants as stages

-- the bytes that came after the head
abbrev pub follows : Stage → List ℕ
follows stages.Head = []
follows (stages.Text headed body) = body.items
follows (stages.Message headed message) = message
follows (stages.Refused fault) = []

-- whether no more bytes are needed
abbrev pub is_whole : Stage → Bool
is_whole stages.Head = false
is_whole (stages.Text headed body) = nat_le headed.chosen.body_length (length body.items)
is_whole (stages.Message headed message) = nat_le headed.chosen.body_length (length message)
is_whole (stages.Refused fault) = true

-- whether the request is refused, whatever follows
abbrev pub is_refused : Stage → Bool
is_refused stages.Head = false
is_refused (stages.Text headed body) = false
is_refused (stages.Message headed message) = false
is_refused (stages.Refused fault) = true

-- no bytes, or bytes that begin with no head
abbrev pub HasNoneYet : List ℕ → Type 0
HasNoneYet bytes = 0 < length bytes → HasNoRequest bytes

-- the bytes are a head, of which this is known
pub record IsHead (bytes : List ℕ) (headed : Headed) : Type 0 where
  pub head : RequestHead
  pub reads : ReadsRequest bytes head []
  pub allowed : IsAllowed head
  pub chosen_is : chosen head ≡ Ok headed.chosen
  pub target_is : span_bytes bytes headed.target ≡ head.target
  pub within : IsWithin (length bytes) headed.target
  pub small : headed.chosen.body_length ≤ MOST_BODY

-- the bytes are a head that asks for a message to be transcoded
abbrev pub IsMessageHead : List ℕ → Headed → Type 0
IsMessageHead bytes headed = IsHead bytes headed × (headed.chosen.action ≡ Transcode)

-- what is known in a stage of the bytes before the body
abbrev pub Stands : List ℕ → Stage → Type 0
Stands bytes stages.Head = HasNoneYet bytes × (length bytes < MOST_HEAD)
Stands bytes (stages.Text headed body) = IsHead bytes headed
Stands bytes (stages.Message headed message) = IsMessageHead bytes headed
Stands bytes (stages.Refused fault) = TellsEach bytes (Err fault)

-- the stage of bytes that begin with a head of a length
abbrev pub IsAfterHead : ℕ → List ℕ → Stage → Type 0
IsAfterHead len bytes stages.Head = ⊥
IsAfterHead len bytes (stages.Text headed body) = IsHead (take len bytes) headed × (body.items ≡ drop len bytes)
IsAfterHead len bytes (stages.Message headed message) =
    IsMessageHead (take len bytes) headed × (message ≡ drop len bytes)
IsAfterHead len bytes (stages.Refused fault) = TellsEach bytes (Err fault)

-- the stage with a body of these bytes
abbrev pub IsBodyStage : Headed → List ℕ → Stage → Type 0
IsBodyStage known bytes stages.Head = ⊥
IsBodyStage known bytes (stages.Text headed body) = (headed ≡ known) × (body.items ≡ bytes)
IsBodyStage known bytes (stages.Message headed message) =
    (headed ≡ known) × (headed.chosen.action ≡ Transcode) × (message ≡ bytes)
IsBodyStage known bytes (stages.Refused fault) = ⊥
