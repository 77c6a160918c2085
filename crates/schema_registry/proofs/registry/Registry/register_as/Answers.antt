use Rattle.spec_registry.specs.Accepting.{declaration_of, registry_after}
use Rattle.spec_registry.specs.Command.{RegisterCommand}
use Rattle.spec_registry.specs.Reply.{IdReply}
use Rattle.schema_registry.specs.Tables.{entry_of}
use Rattle.std.proofs.Common.{string_bytes}
use Rattle.schema_registry.proofs.Added.{known-answer, known-held}
use Rattle.schema_registry.proofs.Kept.{accepted-more, held-after}
use Rattle.schema_registry.proofs.Told.{registered-answer}
use Rattle.schema_registry.proofs.registry.Registry.register_as.Goals as goal

pub invariant_of-self : goal.invariant_of-self
invariant_of-self c =
    let old = c.self.inside.history.commands in
    let lists = registry_after old in
    let s = string_bytes c.args.subject in
    let schema = c.args.schema.now in
    let command = rw (← c.self.view_is) at c.requires.command in
    let asked = command.asks in
    let are = rw asked.command_is at command.commands_are in
    let known = rw (← c.self.view_is, c.in-Known.is) at c.requires.decided in
    let e = entry_of s known.number c.in-Known.id in (
      held-after _ _ _ _ old c.args.history.commands (RegisterCommand s asked.text) are
          (known-held _ _ _ _ lists c.self.invariant.0 s schema e known.found (declaration_of asked.text) asked.declares),
      accepted-more old c.args.history.commands (RegisterCommand s asked.text) (IdReply c.in-Known.id) are c.self.invariant.1
          (registered-answer lists s asked.text schema asked.subject_is asked.declares (IdReply c.in-Known.id) (known-answer lists s schema e known.found)),
    )
