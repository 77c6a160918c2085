use Rattle.std.proofs.Common.{◌≡◌, ◌∙◌, List, Ok, IsTrue, ap, subst, sym}
use Rattle.line_journal.specs.Journal.{IsAtRest}
use Rattle.line_journal.specs.Lines.{Line, lines_of}
use Rattle.registry_store.proofs.Stores.{at_rest_left}
use Rattle.registry_store.specs.Store.{commands_of, lines_for}
use Rattle.registry_store.proofs.store.CommandStore.open.Goals as goal

pub returns-in-Ok-read_commands-clause-commands : goal.returns-in-Ok-read_commands-clause-commands
returns-in-Ok-read_commands-clause-commands g c = λ clean.
    let same : lines_of c.in-Ok.found.1.items ≡ lines_for (commands_of c.in-Ok-read_commands.commands.items) = sym (ap lines_of c.deref.ensures.value) ∙ c.in-Ok-read_commands.ensures.value in
    record { may = c.in-Ok-read_commands.ensures.may; lines = c.in-Ok.ensures.lines clean ∙ ap Ok same }

pub returns-in-Ok-read_commands-clause-keeps : goal.returns-in-Ok-read_commands-clause-keeps
returns-in-Ok-read_commands-clause-keeps g c = λ durable.
    let same : lines_of c.in-Ok.found.1.items ≡ lines_for (commands_of c.in-Ok-read_commands.commands.items) = sym (ap lines_of c.deref.ensures.value) ∙ c.in-Ok-read_commands.ensures.value in
    record {
      may = c.in-Ok-read_commands.ensures.may;
      at_rest = λ clean. subst (λ (lines : List Line). IsAtRest g.D.Disk.seen g.D.Disk.may_leave c.in-Ok.found.0 lines) same (c.in-Ok.ensures.at_rest clean durable);
    }

pub returns-clause-crash : goal.returns-clause-crash
returns-clause-crash g c = λ clean durable file left.
    let was = subst (λ d. IsTrue (g.D.Disk.is_clean d)) c.into_disk.ensures clean in
    let rests = c.in-Ok.ensures.at_rest was durable in
    let there = subst (λ d. g.D.Disk.may_leave d file) c.into_disk.ensures left in
    at_rest_left g.D.Disk.seen g.D.Disk.may_leave g.D.Disk.is_clean c.in-Ok.found.0 (lines_of c.in-Ok.found.1.items) rests file there ∙ sym (c.in-Ok.ensures.lines was)
