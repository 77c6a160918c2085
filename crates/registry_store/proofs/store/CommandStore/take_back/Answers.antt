use Rattle.std.proofs.Common.{arith, rules}
use Rattle.registry_store.proofs.Stores.{files_front, keeps_less, left_from_files}
use Rattle.registry_store.proofs.store.CommandStore.take_back.Goals as goal

pub returns-clause-taken : goal.returns-clause-taken
returns-clause-taken g c = λ opened commands command keeps. keeps_less g.D.Disk.seen g.D.Disk.may_leave g.D.Disk.is_clean c.args.self.now commands command keeps _ (search rules) (λ lines line rests. grind arith)

pub returns-clause-files : goal.returns-clause-files
returns-clause-files g c = λ commands command keeps. search (rules, files_front g.D.Disk.seen g.D.Disk.may_leave g.D.Disk.is_clean)

pub returns-clause-crash : goal.returns-clause-crash
returns-clause-crash g c = λ commands command keeps left leaves. search (rules, left_from_files g.D.Disk.seen g.D.Disk.may_leave g.D.Disk.is_clean, files_front g.D.Disk.seen g.D.Disk.may_leave g.D.Disk.is_clean)

pub returns-clause-why : goal.returns-clause-why
returns-clause-why g c = λ opened usable last closed. search rules
