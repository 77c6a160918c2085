-- The schemas so far are of the commands that were read, and the others are left.
use Rattle.std.proofs.Common.{◌≡◌, ◌++◌}
use Rattle.registry_store.specs.Store.{commands_of}
use Rattle.registry_store.specs.Schemas.{registrations}
use Rattle.registry_store.proofs.kept_schema.schemas_in.Given as goal

abbrev pub invariant-loop-command : goal.invariant-loop-command
invariant-loop-command l = registrations l.fn.url l.schemas.items ++ commands_of l.command-iterator.rest.items ≡ commands_of l.fn.commands.items
