use Rattle.registry_store.proofs.Stores.{one_list}
use Rattle.registry_store.specs.Store.{commands_of}
use Rattle.schema_registry.specs.Replaying.{stored_in}
use Rattle.schema_registry.proofs.KeptStores.{no-registry}
use Rattle.schema_registry.proofs.kept_registry.opening.Started.from_disk.Goals as goal

pub returns-in-Err-clause-why : goal.returns-in-Err-clause-why
returns-in-Err-clause-why g c =
    no-registry g.D.Disk.seen g.D.Disk.is_clean g.D.Disk.is_mixing g.D.Disk.faults c.args.disk c.in-Err.disk c.in-Err.fault c.in-Err.ensures.why

pub returns-in-Err-replayed-clause-why : goal.returns-in-Err-replayed-clause-why
returns-in-Err-replayed-clause-why g c known clean commands accepted has =
    let true_record = rw c.into_disk.ensures at clean in
    let items = c.in-Ok.found.1.items in
    c.in-Err-replayed.ensures.why known commands accepted
    (one_list g.D.Disk.seen g.D.Disk.may_leave g.D.Disk.is_clean (g.D.Disk.seen c.args.disk) (commands_of items) (stored_in commands) (c.in-Ok.ensures.commands true_record) has)
