use Rattle.std.proofs.Common.{map}
use Rattle.registry_store.proofs.Stores.{kept_file, only_these}
use Rattle.schema_registry.specs.Replaying.{stored_as}
use Rattle.schema_registry.proofs.Replays.{kept-are}
use Rattle.schema_registry.proofs.command_keeper.CommandStoreKeeper.leaves_what_it_has.Goals as goal

pub returns-clause-crash : goal.returns-clause-crash
returns-clause-crash g c ks left keeps leaves =
    kept-are left ks (only_these g.D.Disk.seen g.D.Disk.may_leave g.D.Disk.is_clean c.args.self.now (map stored_as ks) (map stored_as left) keeps leaves)

pub returns-clause-readable : goal.returns-clause-readable
returns-clause-readable g c ks keeps spoilt =
    spoilt.none ks (kept_file g.D.Disk.seen g.D.Disk.may_leave g.D.Disk.is_clean c.args.self.now (map stored_as ks) keeps spoilt.clean spoilt.file spoilt.left)
