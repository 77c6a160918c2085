use Rattle.std.proofs.Common.{◌≡◌, take}
use Rattle.std.specs.List.{AllByRecursion}
use Rattle.registry_store.specs.Store.{commands_of}
use Rattle.store_commands.specs.Listing.{HasNames, replay_lines}
use Rattle.store_commands.proofs.listing.listing_of.Given as goal

abbrev pub invariant-loop-at : goal.invariant-loop-at
invariant-loop-at l =
    (l.output.items ≡ replay_lines (commands_of (take l.at l.commands)))
    × AllByRecursion HasNames (commands_of (take l.at l.commands))
