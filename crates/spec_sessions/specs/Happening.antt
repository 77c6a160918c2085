-- What happens to a world, one event after another. All of this is this project's own.
use Rattle.std.specs.Prelude.{◌≡◌, ◌≢◌, ℕ, List, [], ◌∷◌, ◌++◌, length, Option, Some, None, Ok, Err, slice_get, slice_set}
use Rattle.spec_machine.specs.Program.{Program}
use Rattle.spec_schema.specs.Schema.{Declaration}
use Rattle.spec_machine.specs.Code.{code_of}
use Rattle.spec_registry.specs.declared.refusal.Refusal.TheVariants as registry
use Rattle.spec_registry.specs.Accepting.{registry_after}
use Rattle.spec_registry.specs.Answer.{IsAnswer}
use Rattle.spec_registry.specs.Answers.{Grows, answer_to}
use Rattle.spec_registry.specs.Command.{Command, RegisterCommand, SetLevelCommand}
use Rattle.spec_registry.specs.Reply as replies
use Rattle.spec_sessions.specs.Session.{begun}
use Rattle.spec_sessions.specs.declared.publish_error.PublishError.TheVariants.{Clash, NoMemory, ProgramTooLarge}
use Rattle.spec_sessions.specs.declared.reply.EventReply.{EventReply}
use Rattle.spec_sessions.specs.declared.reply.EventReply.TheVariants.{Done, Id, Refused, SessionIs}
use Rattle.spec_sessions.specs.declared.refusal.EventRefusal.TheVariants as refusals
use Rattle.spec_sessions.specs.Acts.{Acts}
use Rattle.spec_sessions.specs.Event.{Act, Begin, Event, On, Publish, Register, SetLevel}
use Rattle.spec_sessions.specs.World.{Held, World, program_at, schema_at}

-- ---- the registry

-- it accepts a command with this reply, or refuses it and nothing changes; memory is refused where some may be wanted
abbrev pub Accepts : Command → replies.Reply → World → World → Type 0
Accepts c reply old new = IsAnswer (answer_to (registry_after old.commands) c) (Ok reply)
    × (new ≡ record old { commands = old.commands ++ c ∷ [] })

abbrev pub Refuses : Command → EventReply → World → World → Type 0
Refuses c (Refused (refusals.OfRegistry e)) old new =
    ((e ≡ registry.NoMemory → Grows (registry_after old.commands) c)
    × (e ≢ registry.NoMemory → IsAnswer (answer_to (registry_after old.commands) c) (Err e)))
    × (new ≡ old)
Refuses c reply old new = ⊥

abbrev pub Registers : Command → EventReply → World → World → Type 0
Registers c (Id id) old new = Accepts c (replies.IdReply id) old new
Registers c reply old new = Refuses c reply old new

-- ---- publications

-- a pair of known schemas; a program too large has no publication, and in the program store there may be a clash
abbrev pub PublishesNew : ℕ → ℕ → Declaration → Declaration → EventReply → World → World → Type 0
PublishesNew w r written read Done old new = (P : Program) × (code_of written.nodes read.nodes ≡ Some P)
    × (new ≡ record old { published = old.published ++ record { writer = w; reader = r; program = P } ∷ [] })
PublishesNew w r written read (Refused (refusals.OfPublication ProgramTooLarge)) old new =
    (code_of written.nodes read.nodes ≡ None) × (new ≡ old)
PublishesNew w r written read (Refused (refusals.OfPublication Clash)) old new = new ≡ old
PublishesNew w r written read (Refused (refusals.OfPublication NoMemory)) old new = new ≡ old
PublishesNew w r written read reply old new = ⊥

-- one that is published is not published again
abbrev pub PublishesPair : Option Program → ℕ → ℕ → Declaration → Declaration → EventReply → World → World → Type 0
PublishesPair (Some P) w r written read reply old new = (reply ≡ Done) × (new ≡ old)
PublishesPair None w r written read reply old new = PublishesNew w r written read reply old new

abbrev pub Publishes : Option Declaration → Option Declaration → ℕ → ℕ → EventReply → World → World → Type 0
Publishes (Some written) (Some read) w r reply old new =
    PublishesPair (program_at w r old) w r written read reply old new
Publishes written read w r reply old new = (reply ≡ Refused refusals.NoSchema) × (new ≡ old)

-- ---- sessions

-- a new session, which worker 0 holds
abbrev pub Begins : Option Program → ℕ → ℕ → EventReply → World → World → Type 0
Begins (Some P) w r (SessionIs s) old new = (s ≡ length old.sessions)
    × (new ≡ record old {
      sessions = old.sessions ++ record { holder = 0; writer = w; reader = r; session = begun P } ∷ [];
    })
Begins (Some P) w r (Refused refusals.NoMemory) old new = new ≡ old
Begins (Some P) w r reply old new = ⊥
Begins None w r reply old new = (reply ≡ Refused refusals.NotPublished) × (new ≡ old)

-- what happens to one session changes no other
abbrev pub ActsOn : Option Held → ℕ → Act → EventReply → World → World → Type 0
ActsOn (Some held) s act reply old new = (after : Held) × Acts act reply held after
    × (new ≡ record old { sessions = slice_set old.sessions s after })
ActsOn None s act reply old new = (reply ≡ Refused refusals.NoSession) × (new ≡ old)

-- ---- one event

abbrev pub Happens : Event → EventReply → World → World → Type 0
Happens (Register subject text) reply old new = Registers (RegisterCommand subject text) reply old new
Happens (SetLevel subject level) Done old new =
    Accepts (SetLevelCommand subject level) (replies.LevelReply level) old new
Happens (SetLevel subject level) reply old new = Refuses (SetLevelCommand subject level) reply old new
Happens (Publish w r) reply old new = Publishes (schema_at w old) (schema_at r old) w r reply old new
Happens (Begin w r) reply old new = Begins (program_at w r old) w r reply old new
Happens (On s act) reply old new = ActsOn (slice_get old.sessions s) s act reply old new

-- ---- events, one after another

pub record Step : Type 0 where
  pub event : Event
  pub reply : EventReply

abbrev pub Happened : List Step → World → World → Type 0
Happened [] old new = new ≡ old
Happened (step ∷ steps) old new = (next : World) × Happens step.event step.reply old next × Happened steps next new
