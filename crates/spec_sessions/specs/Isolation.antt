-- A session is what its own accepted acts make of it, whatever else happens. All of this is this project's own.
use Rattle.std.specs.Prelude.{◌≡◌, ◌⊎◌, ℕ, ◌==◌, List, [], ◌∷◌, ◌++◌, Some, if◌then◌else◌, slice_get}
use Rattle.spec_machine.specs.Program.{Program}
use Rattle.spec_sessions.specs.Session.{begun}
use Rattle.spec_sessions.specs.declared.reply.EventReply.{EventReply}
use Rattle.spec_sessions.specs.declared.reply.EventReply.TheVariants.{Refused, SessionIs}
use Rattle.spec_sessions.specs.Acts.{Acts}
use Rattle.spec_sessions.specs.Event.{Act, Begin, Event, On}
use Rattle.spec_sessions.specs.Happening.{Happened, Step}
use Rattle.spec_sessions.specs.World.{Held, World, no_world}

-- ---- what acts make of a session

-- an act, and what was replied to it
pub record ActStep : Type 0 where
  pub act : Act
  pub reply : EventReply

-- acts with these replies make of the one session the other, one after another
abbrev pub Lived : List ActStep → Held → Held → Type 0
Lived [] old new = new ≡ old
Lived (step ∷ steps) old new = (next : Held) × Acts step.act step.reply old next × Lived steps next new

-- as it begins: of these ids and this program, held by worker 0
abbrev pub begun_by : ℕ → ℕ → Program → Held
begun_by writer reader P = record { holder = 0; writer = writer; reader = reader; session = begun P }

-- ---- its own acts

-- an act that was accepted; one that is refused changes nothing
abbrev pub accepted : Act → EventReply → List ActStep
accepted act (Refused refusal) = []
accepted act reply = record { act = act; reply = reply } ∷ []

-- what a step is to this session: an act of its own that was accepted, or nothing
abbrev pub own_act : ℕ → Event → EventReply → List ActStep
own_act s (On t act) reply = if t == s then accepted act reply else []
own_act s event reply = []

abbrev pub own_acts : ℕ → List Step → List ActStep
own_acts s [] = []
own_acts s (step ∷ steps) = own_act s step.event step.reply ++ own_acts s steps

-- among these steps is the beginning of this session, of a pair of these ids
abbrev pub HasBegun : ℕ → ℕ → ℕ → List Step → Type 0
HasBegun s writer reader [] = ⊥
HasBegun s writer reader (step ∷ steps) =
    ((step.event ≡ Begin writer reader) × (step.reply ≡ SessionIs s)) ⊎ HasBegun s writer reader steps

-- ---- the laws

-- A session began as its pair's, and from there its own accepted acts made it what it is.
pub record IsItsOwn (s : ℕ) (steps : List Step) (held : Held) : Type 0 where
  pub began : HasBegun s held.writer held.reader steps
  pub lived : Lived (own_acts s steps) (begun_by held.writer held.reader held.session.program) held

-- each session of a world is its own
abbrev pub AreTheirOwn : List Step → World → Type 0
AreTheirOwn steps world = (s : ℕ) (held : Held) → slice_get world.sessions s ≡ Some held → IsItsOwn s steps held

abbrev pub SessionsAreTheirOwn : Type 0
SessionsAreTheirOwn = (steps : List Step) (world : World) → Happened steps no_world world → AreTheirOwn steps world

-- acts with their replies lead to one session
abbrev pub ActsLeadToOne : Type 0
ActsLeadToOne =
    (steps : List ActStep) (old one other : Held) → Lived steps old one → Lived steps old other → one ≡ other

-- events with their replies lead to one world
abbrev pub EventsLeadToOne : Type 0
EventsLeadToOne =
    (steps : List Step) (old one other : World) → Happened steps old one → Happened steps old other → one ≡ other
