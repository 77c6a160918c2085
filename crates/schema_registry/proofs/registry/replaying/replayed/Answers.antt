use Rattle.std.proofs.Common.{List, sym, ap, ◌++◌, ◌∙◌}
use Rattle.registry_store.specs.Stored.{stored_of}
use Rattle.registry_store.specs.declared.stored.StoredCommand.{StoredCommand}
use Rattle.schema_registry.specs.Replaying.{stored_all, stored_in}
use Rattle.schema_registry.proofs.Replays.{of-none}
use Rattle.schema_registry.proofs.registry.replaying.replayed.Goals as goal

pub returns-in-Err-clause-why : goal.returns-in-Err-clause-why
returns-in-Err-clause-why g c known commands accepted same =
    let steps = c.in-Some.ensures.steps in
    let left = c.next.new.self.rest.items in
    let are = ap (λ (l : List StoredCommand). stored_in c.loop-command.registry ++ stored_all l) (sym steps.0) ∙ c.loop-command.invariant.stored in
    of-none c.loop-command.registry (stored_of c.in-Some.command) (stored_all left) (stored_all c.args.commands.items) c.in-Err.fault are known c.in-Err.ensures.why commands accepted same
