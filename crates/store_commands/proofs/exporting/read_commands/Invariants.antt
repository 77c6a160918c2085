use Rattle.std.proofs.Common.{◌≡◌, take}
use Rattle.std.specs.List.{AllByRecursion}
use Rattle.line_journal.specs.Lines.{lines_of}
use Rattle.registry_store.specs.Store.{commands_of, lines_for}
use Rattle.registry_store.specs.Stored.{MayBeStored}
use Rattle.store_commands.proofs.exporting.read_commands.Given as goal

abbrev pub invariant-loop-at : goal.invariant-loop-at
invariant-loop-at l =
    (lines_of (take l.at l.lines) ≡ lines_for (commands_of l.commands.items)) × AllByRecursion MayBeStored (commands_of l.commands.items)
