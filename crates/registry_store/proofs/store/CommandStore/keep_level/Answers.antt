use Rattle.std.proofs.Common.{inl, refl, subst, sym}
use Rattle.std.specs.Option.{option_copied}
use Rattle.registry_store.specs.Stored.{LevelSet}
use Rattle.registry_store.proofs.Bodies.{line_is_one}
use Rattle.registry_store.proofs.Stores.{left_from_files, only_these, unchanged_files}
use Rattle.registry_store.specs.Line.{IsOneLine}
use Rattle.registry_store.proofs.store.CommandStore.keep_level.Goals as goal

pub returns-in_err-line-clause-crash : goal.returns-in_err-line-clause-crash
returns-in_err-line-clause-crash g c = λ commands keeps left leaves.
    inl (only_these g.D.Disk.seen g.D.Disk.may_leave g.D.Disk.is_clean c.args.self.now commands left keeps leaves)

pub returns-in_err-line-clause-files : goal.returns-in_err-line-clause-files
returns-in_err-line-clause-files g c = λ commands keeps.
    unchanged_files g.D.Disk.seen g.D.Disk.may_leave g.D.Disk.is_clean c.args.self.now commands (LevelSet (option_copied c.args.subject) c.args.level.now) keeps

pub append-requires : goal.append-requires
append-requires g c = subst IsOneLine (sym c.in_ok-line.ensures.line) (line_is_one (LevelSet (option_copied c.args.subject) c.args.level.now) (c.in_ok-line.ensures.is_text refl, c.utf8.level))

pub returns-clause-crash : goal.returns-clause-crash
returns-clause-crash g c = λ commands keeps left leaves.
    let files = c.append.ensures.files (LevelSet (option_copied c.args.subject) c.args.level.now) (c.in_ok-line.ensures.is_text refl, c.utf8.level) c.in_ok-line.ensures.line commands keeps in
    left_from_files g.D.Disk.seen g.D.Disk.may_leave g.D.Disk.is_clean c.append.new.self commands left (LevelSet (option_copied c.args.subject) c.args.level.now) files leaves
