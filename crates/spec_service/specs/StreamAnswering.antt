-- Which requests are answered over a connection that stays. This project's own; how a server answers them is the
-- definition of `http_server`.
use Rattle.std.specs.Prelude.{◌≡◌, ◌≢◌, ℕ, List, [], ◌∷◌, ◌++◌, length, map}
use Rattle.http.specs.Request.{body_of, head_of}
use Rattle.http1.specs.Message as Wire
use Rattle.http1.specs.Message.{ReadsRequests}
use Rattle.http1.specs.ServerTrace.{IsBetween}
use Rattle.http_server.specs.Exchange.{ArePartsOf, Call}
use Rattle.http_server.specs.History.{History, IsServed}
use Rattle.http_server.specs.declared.state.Config.{Config}
use Rattle.http_server.specs.declared.state.State.TheVariants.{Aborted}
use Rattle.spec_service.specs.Persistent.{Persistent, received}
use Rattle.spec_service.specs.Preparing.{Answer, IsPrepared}
use Rattle.spec_service.specs.Scouting.{Scouted}
use Rattle.spec_service.specs.Stream.{Asked, Looks, asked_in, new_scouted}

-- the call is for what was asked: its service was given a request with this head and this content
pub record IsFor (asked : Asked) (call : Call) : Type 0 where
  pub message : Wire.Request
  pub parts : ArePartsOf message.head (head_of call.0)
  pub content : body_of call.0 ≡ message.body.bytes
  pub asks : asked ≡ asked_in message

-- each call is for what was asked in its place, as far as both go
abbrev pub AreFor : List Asked → List Call → Type 0
AreFor [] calls = Unit {0}
AreFor (a ∷ asked) [] = Unit {0}
AreFor (a ∷ asked) (c ∷ calls) = IsFor a c × AreFor asked calls

-- However a stream comes, its requests are answered in the order in which they were seen: each call of the server that
-- has served them is for the request that was seen in its place. `more` came and was not handed on to the server.
abbrev pub CallsAreForTheSeen : Type 0
CallsAreForTheSeen = (config : Config) (h : History) (more rest : List ℕ) (asked : List Asked) (last : Scouted)
    → IsServed config h → h.state ≢ Aborted
    → Looks (new_scouted config.limits config.max_body_len) (h.received ++ more) asked last rest
    → IsBetween last.server.reading → AreFor asked h.calls

-- what was asked is the first request of those that came for which the server has made no call
pub record IsNext (p : Persistent) (asked : Asked) : Type 0 where
  pub requests : List Wire.Request
  pub rest : List ℕ
  pub reads : ReadsRequests p.config.limits (received p) requests rest
  pub before : List Asked
  pub asked_are : map asked_in requests ≡ before ++ asked ∷ []
  pub called : length before ≡ length p.history.calls

-- the call that the server has made since, if it has made one, is answered by this answer
pub data AnswersNext (answer : Answer) (before after : List Call) : Type 0 where
  called : (c : Call) → after ≡ before ++ c ∷ [] → IsPrepared answer c.1 → AnswersNext answer before after
  refused : after ≡ before → AnswersNext answer before after

-- the call that the server has made since is for what was asked, unless its memory ran out, and then nothing is sent
abbrev pub CallsFor : Asked → Persistent → Persistent → Type 0
CallsFor asked old new =
    (c : Call) → new.history.calls ≡ old.history.calls ++ c ∷ [] → new.history.state ≢ Aborted → ∥ IsFor asked c ∥₁
