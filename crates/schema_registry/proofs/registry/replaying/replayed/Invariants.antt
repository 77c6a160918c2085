use Rattle.std.proofs.Common.{◌≡◌, ◌+◌, ◌++◌, length, vec_len}
use Rattle.schema_registry.specs.Replaying.{stored_all, stored_in}
use Rattle.schema_registry.proofs.registry.replaying.replayed.Given as goal

abbrev pub invariant-loop-command : goal.invariant-loop-command
invariant-loop-command g l = record {
  stored : stored_in l.registry ++ stored_all l.command-iterator.rest.items ≡ stored_all l.fn.commands.items;
  count : l.number + length l.command-iterator.rest.items ≡ vec_len l.fn.commands;
}
