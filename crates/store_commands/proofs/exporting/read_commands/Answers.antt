use Rattle.std.proofs.Common.{Err, List, ap, subst, sym, ◌∙◌}
use Rattle.std.specs.List.{AllByRecursion}
use Rattle.line_journal.specs.Lines.{lines_of}
use Rattle.registry_store.proofs.Causes.{lines_more, may_more, read_cause}
use Rattle.registry_store.specs.Cause.{HasReadCause}
use Rattle.registry_store.specs.Store.{commands_of, lines_for}
use Rattle.registry_store.specs.Stored.{MayBeStored}
use Rattle.registry_store.specs.declared.stored.StoredCommand.{StoredCommand}
use Rattle.store_commands.proofs.exporting.read_commands.Goals as goal

pub returns-in-Err : goal.returns-in-Err
returns-in-Err c =
    let cause = read_cause c.args.lines.now c.loop-at.at c.index-lines-at.result c.deref.result.now c.in-Err.fault c.loop-at-test.true c.index-lines-at.is c.deref.ensures.value
    (λ e. c.in-Err.ensures.bad_check (ap Err e)) (λ e. c.in-Err.ensures.bad_line (ap Err e)) in
    record { value = tt; may = tt; why = subst (HasReadCause (lines_of c.args.lines.now)) (sym c.bad_line.ensures) cause }

pub loop-at-preserved : goal.loop-at-preserved
loop-at-preserved c =
    let lines = lines_more c.args.lines.now c.loop-at.at c.index-lines-at.result c.deref.result.now c.loop-at.commands.items c.in-Ok.command c.loop-at-test.true c.index-lines-at.is c.deref.ensures.value c.in-Ok.ensures.value c.loop-at.invariant.0 in
    let may = may_more c.loop-at.commands.items c.in-Ok.command c.loop-at.invariant.1 c.in-Ok.ensures.may in
    let pushed = sym c.in_ok-push-in-Ok.ensures.items in
    (lines ∙ ap (λ (x : List StoredCommand). lines_for (commands_of x)) pushed, subst (λ (x : List StoredCommand). AllByRecursion MayBeStored (commands_of x)) pushed may)
