use Rattle.std.proofs.Common.{map, option_map, string_bytes}
use Rattle.schema_registry.specs.Keeping.{KeptLevel}
use Rattle.schema_registry.specs.Replaying.{stored_as}
use Rattle.schema_registry.proofs.KeptStores.{left-one, not-spoilt}
use Rattle.schema_registry.proofs.command_keeper.CommandStoreKeeper.keep_level.Goals as goal

pub returns-in-Ok-clause-crash : goal.returns-in-Ok-clause-crash
returns-in-Ok-clause-crash g c ks keeps left leaves =
    let k = KeptLevel (option_map string_bytes c.args.subject.now) c.args.level in
    left-one ks left k ((rw (c.as_deref.ensures.value, c.name.ensures) at c.keep_level.ensures.crash) (map stored_as ks) keeps (map stored_as left) leaves)

pub returns-in-Ok-clause-readable : goal.returns-in-Ok-clause-readable
returns-in-Ok-clause-readable g c ks keeps =
    let k = KeptLevel (option_map string_bytes c.args.subject.now) c.args.level in
    not-spoilt g.D.Disk.may_leave g.D.Disk.is_clean c.keep_level.new.self ks k
    ((rw (c.as_deref.ensures.value, c.name.ensures) at c.keep_level.ensures.files) (map stored_as ks) keeps)

pub returns-in-Err-clause-crash : goal.returns-in-Err-clause-crash
returns-in-Err-clause-crash g c ks keeps left leaves =
    let k = KeptLevel (option_map string_bytes c.args.subject.now) c.args.level in
    left-one ks left k ((rw (c.as_deref.ensures.value, c.name.ensures) at c.keep_level.ensures.crash) (map stored_as ks) keeps (map stored_as left) leaves)

pub returns-in-Err-clause-readable : goal.returns-in-Err-clause-readable
returns-in-Err-clause-readable g c ks keeps =
    let k = KeptLevel (option_map string_bytes c.args.subject.now) c.args.level in
    not-spoilt g.D.Disk.may_leave g.D.Disk.is_clean c.keep_level.new.self ks k
    ((rw (c.as_deref.ensures.value, c.name.ensures) at c.keep_level.ensures.files) (map stored_as ks) keeps)
