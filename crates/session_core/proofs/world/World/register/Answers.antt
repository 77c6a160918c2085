use Rattle.std.proofs.Common.{◌≡◌, ◌<◌, length, true, refl, rules, string_bytes}
use Rattle.spec_avro.specs.declared.limits.TheConstants.{MOST_TEXT}
use Rattle.spec_registry.specs.Accepting.{registry_after}
use Rattle.schema_registry.specs.Command.{command_of}
use Rattle.spec_registry.specs.Subject.{is_subject}
use Rattle.session_core.proofs.Replies.{long-refused}
use Rattle.session_core.proofs.Worlds.{kept-by-answer}
use Rattle.session_core.proofs.world.World.register.Goals as goal

pub invariant_of-self : goal.invariant_of-self
invariant_of-self c = kept-by-answer (record { commands = c.self.inside.registry; published = c.self.inside.published.items; sessions = c.self.inside.sessions.items }) (command_of c.in-Ok.command) c.apply.new.self c.apply.result c.apply.ensures.ok c.apply.ensures.err c.self.invariant

pub returns-then-len-gt-MOST_TEXT : goal.returns-then-len-gt-MOST_TEXT
returns-then-len-gt-MOST_TEXT c =
    let named : is_subject (string_bytes c.args.subject.now) ≡ true = search rules in
    let long : MOST_TEXT < length (string_bytes c.args.text.now) = search rules in
    (((λ e. absurd (let no : ⊥ = cc in no)), λ _. long-refused (registry_after c.args.self.now.commands) (string_bytes c.args.subject.now) (string_bytes c.args.text.now) named long), refl)
