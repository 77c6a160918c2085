use Rattle.std.proofs.Common.{map}
use Rattle.schema_registry.specs.Replaying.{stored_as}
use Rattle.schema_registry.proofs.KeptStores.{left-one, stored-more}
use Rattle.schema_registry.proofs.command_keeper.CommandStoreKeeper.take_back.Goals as goal

pub returns-clause-crash : goal.returns-clause-crash
returns-clause-crash g c ks k keeps left leaves =
    left-one ks left k (c.take_back.ensures.crash (map stored_as ks) (stored_as k) (rw (stored-more ks k) at keeps) (map stored_as left) leaves)
