-- What `replay` answers: lines change a world, one after another, from an empty one on.
-- All of this is this project's own.
use Rattle.std.specs.Prelude.{◌≡◌, ℕ, List, [], ◌∷◌, ◌++◌, codes, option_map, slice_get, Option, Some, None, MatchOption}
use Rattle.std.specs.Fmt.{decimal}
use Rattle.spec_lines.specs.Reading.{replay_line}
use Rattle.spec_sessions.specs.Session.{Session}
use Rattle.spec_sessions.specs.Happening.{Happens}
use Rattle.spec_registry.specs.Refusal as registry
use Rattle.spec_sessions.specs.Names.{refusal_name}
use Rattle.spec_sessions.specs.World.{Held, World, no_world}
use Rattle.spec_sessions.specs.declared.refusal.EventRefusal.TheVariants.{NoSession}
use Rattle.spec_sessions.specs.declared.reply.EventReply.{EventReply}
use Rattle.spec_sessions.specs.declared.reply.EventReply.TheVariants as replies
use Rattle.spec_lines.specs.Folding.{AnswersAll}
use Rattle.spec_lines.specs.Request.{Happen, ListCode, NoLevel, Request, Show, TellResult}
use Rattle.spec_lines.specs.Telling.{TellsEnd, bad_line, refused_line}
use Rattle.spec_lines.specs.ShownSessions.{Lists, Shows}

-- the reply to an event
abbrev pub reply_line : EventReply → List ℕ
reply_line (replies.Id id) = codes "id " ++ decimal id ++ 10 ∷ []
reply_line replies.Done = codes "ok" ++ 10 ∷ []
reply_line (replies.SessionIs number) = codes "session " ++ decimal number ++ 10 ∷ []
reply_line (replies.Rows rows) = codes "rows " ++ decimal rows ++ 10 ∷ []
reply_line (replies.Refused refusal) = refused_line (refusal_name refusal)

abbrev pub session_at : ℕ → World → Option Session
session_at s world = option_map (λ (held : Held). held.session) (slice_get world.sessions s)

-- a text of a session, where there is one
abbrev pub TellsOf : (Session → List ℕ → Type 0) → Option Session → List ℕ → Type 0
TellsOf Told (Some s) answer = Told s answer
TellsOf Told None answer = answer ≡ refused_line (refusal_name NoSession)

abbrev pub AnswersRequest : Request → List ℕ → World → World → Type 0
AnswersRequest (Happen event) answer old new =
    (reply : EventReply) × Happens event reply old new × (answer ≡ reply_line reply)
AnswersRequest (NoLevel refusal) answer old new =
    (answer ≡ refused_line (registry.refusal_name refusal)) × (new ≡ old)
AnswersRequest (Show s) answer old new = TellsOf Shows (session_at s old) answer × (new ≡ old)
AnswersRequest (ListCode s) answer old new = TellsOf Lists (session_at s old) answer × (new ≡ old)
AnswersRequest (TellResult s) answer old new = TellsOf TellsEnd (session_at s old) answer × (new ≡ old)

abbrev pub AnswersLine : List ℕ → List ℕ → World → World → Type 0
AnswersLine line answer old new =
    MatchOption (replay_line line) ((answer ≡ bad_line) × (new ≡ old))
    (λ request. AnswersRequest request answer old new)

abbrev pub IsReplayed : List (List ℕ) → List ℕ → Type 0
IsReplayed inputs output = (world : World) × AnswersAll AnswersLine inputs output no_world world
