-- What happens to a world, one event after another. All of this is this project's own.
use Rattle.std.specs.Prelude.{◌≡◌, ℕ, List, [], ◌∷◌, ◌++◌, Result, Ok, Err}
use Rattle.spec_machine.specs.Program.{Program}
use Rattle.spec_registry.specs.declared.refusal.Refusal.{Refusal}
use Rattle.schema_registry.specs.declared.reply.Reply as rust
use Rattle.spec_sessions.specs.declared.publish_error.PublishError.TheVariants.{NoMemory}
use Rattle.spec_sessions.specs.declared.reply.EventReply.{EventReply}
use Rattle.spec_sessions.specs.declared.reply.EventReply.TheVariants.{Done, Refused}
use Rattle.spec_sessions.specs.declared.refusal.EventRefusal.TheVariants as refusals
use Rattle.spec_sessions.specs.Event.{Event}
use Rattle.spec_sessions.specs.World.{World}
use Rattle.spec_sessions.specs.Happening.{Step}

-- for a private clause: what is replied where the registry was asked to set a level
abbrev pub level_reply : Result rust.Reply Refusal → EventReply
level_reply (Ok reply) = Done
level_reply (Err refusal) = Refused (refusals.OfRegistry refusal)

-- for a private clause: the pair is added with its program, unless memory is refused
abbrev pub Adds : ℕ → ℕ → Program → EventReply → World → World → Type 0
Adds w r P Done old new =
    new ≡ record old { published = old.published ++ record { writer = w; reader = r; program = P } ∷ [] }
Adds w r P (Refused (refusals.OfPublication NoMemory)) old new = new ≡ old
Adds w r P reply old new = ⊥

-- each event with its reply
abbrev pub steps_of : List Event → List EventReply → List Step
steps_of (e ∷ es) (r ∷ rs) = record { event = e; reply = r } ∷ steps_of es rs
steps_of es rs = []
