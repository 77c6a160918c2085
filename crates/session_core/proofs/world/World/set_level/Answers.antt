use Rattle.std.proofs.Common.{sym, subst, refl}
use Rattle.std.specs.Prelude.{option_map, string_bytes}
use Rattle.spec_registry.specs.Accepting.{registry_after}
use Rattle.schema_registry.specs.Command.{command_of}
use Rattle.spec_sessions.specs.declared.reply.EventReply.{EventReply}
use Rattle.spec_sessions.specs.Event.{SetLevel}
use Rattle.spec_sessions.specs.Happening.{Happens}
use Rattle.spec_sessions.specs.World.{World}
use Rattle.session_core.proofs.Replies.{level-grows, level-happens}
use Rattle.session_core.proofs.Worlds.{kept-by-answer}
use Rattle.session_core.proofs.world.World.set_level.Goals as goal

pub returns-in_default-level_command : goal.returns-in_default-level_command
returns-in_default-level_command c =
    let grows = level-grows (registry_after c.args.self.now.commands) (option_map string_bytes c.args.subject.now) c.args.level c.in_default-level_command.ensures.memory
    (c.in_default.ensures.answer c.args.level) in
    ((λ _. grows, λ other. absurd (other refl)), refl)

pub invariant_of-self : goal.invariant_of-self
invariant_of-self c =
    let inside = c.self.inside in
    kept-by-answer (record { commands = inside.registry; published = inside.published.items; sessions = inside.sessions.items }) (command_of c.in-Ok.command) c.apply.new.self c.apply.result c.apply.ensures.ok c.apply.ensures.err c.self.invariant

pub returns : goal.returns
returns c =
    let inside = c.self.inside in
    let subject = option_map string_bytes c.args.subject.now in
    let old : World = record { commands = inside.registry; published = inside.published.items; sessions = inside.sessions.items } in
    let new : World = record { commands = c.apply.new.self; published = inside.published.items; sessions = inside.sessions.items } in
    let happens = level-happens old new subject c.args.level (command_of c.in-Ok.command) c.apply.result c.in-Ok.ensures.command c.apply.ensures.answer c.apply.ensures.ok c.apply.ensures.err c.apply.ensures.memory refl in
    subst (λ (w : World). Happens (SetLevel subject c.args.level) c.level_reply.result w new) c.self.view_is
    (subst (λ (r : EventReply). Happens (SetLevel subject c.args.level) r old new) (sym c.level_reply.ensures) happens)
