use Rattle.registry_store.proofs.Stores.{only_these}
use Rattle.registry_store.proofs.laws.a_crash_leaves_what_is_kept.Goals as goal

pub returns : goal.returns
returns g c = only_these g.D.Disk.seen g.D.Disk.may_leave g.D.Disk.is_clean
