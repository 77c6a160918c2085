use Rattle.std.proofs.Common.{map}
use Rattle.schema_registry.specs.Keeping.{KeptRegistration}
use Rattle.schema_registry.specs.Replaying.{stored_as}
use Rattle.schema_registry.proofs.KeptStores.{left-one, not-spoilt}
use Rattle.schema_registry.proofs.command_keeper.CommandStoreKeeper.keep_registration.Goals as goal

pub returns-in-Ok-clause-crash : goal.returns-in-Ok-clause-crash
returns-in-Ok-clause-crash g c ks keeps left leaves =
    left-one ks left (KeptRegistration c.args.id c.args.subject.now c.args.text.now) (c.keep_registration.ensures.crash (map stored_as ks) keeps (map stored_as left) leaves)

pub returns-in-Ok-clause-readable : goal.returns-in-Ok-clause-readable
returns-in-Ok-clause-readable g c ks keeps =
    not-spoilt g.D.Disk.may_leave g.D.Disk.is_clean c.keep_registration.new.self ks (KeptRegistration c.args.id c.args.subject.now c.args.text.now)
    (c.keep_registration.ensures.files (map stored_as ks) keeps)

pub returns-in-Err-clause-crash : goal.returns-in-Err-clause-crash
returns-in-Err-clause-crash g c ks keeps left leaves =
    left-one ks left (KeptRegistration c.args.id c.args.subject.now c.args.text.now) (c.keep_registration.ensures.crash (map stored_as ks) keeps (map stored_as left) leaves)

pub returns-in-Err-clause-readable : goal.returns-in-Err-clause-readable
returns-in-Err-clause-readable g c ks keeps =
    not-spoilt g.D.Disk.may_leave g.D.Disk.is_clean c.keep_registration.new.self ks (KeptRegistration c.args.id c.args.subject.now c.args.text.now)
    (c.keep_registration.ensures.files (map stored_as ks) keeps)
