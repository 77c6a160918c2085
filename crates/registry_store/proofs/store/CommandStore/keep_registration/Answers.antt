use Rattle.std.proofs.Common.{arith, inl, subst, sym}
use Rattle.registry_store.specs.Stored.{Registered}
use Rattle.registry_store.proofs.Bodies.{line_is_one}
use Rattle.registry_store.proofs.Stores.{left_from_files, only_these, unchanged_files}
use Rattle.registry_store.specs.Line.{IsOneLine}
use Rattle.registry_store.proofs.store.CommandStore.keep_registration.Goals as goal

pub returns-in_err-line-clause-crash : goal.returns-in_err-line-clause-crash
returns-in_err-line-clause-crash g c = λ commands keeps left leaves.
    inl (only_these g.D.Disk.seen g.D.Disk.may_leave g.D.Disk.is_clean c.args.self.now commands left keeps leaves)

pub returns-in_err-line-clause-files : goal.returns-in_err-line-clause-files
returns-in_err-line-clause-files g c = λ commands keeps.
    unchanged_files g.D.Disk.seen g.D.Disk.may_leave g.D.Disk.is_clean c.args.self.now commands (Registered c.args.id c.args.subject.now c.args.text.now) keeps

pub append-requires : goal.append-requires
append-requires g c = subst IsOneLine (sym c.in_ok-line.ensures) (line_is_one (Registered c.args.id c.args.subject.now c.args.text.now) (omega arith, c.utf8.subject, c.utf8.text))

pub returns-clause-crash : goal.returns-clause-crash
returns-clause-crash g c = λ commands keeps left leaves.
    let files = c.append.ensures.files (Registered c.args.id c.args.subject.now c.args.text.now) (omega arith, c.utf8.subject, c.utf8.text) c.in_ok-line.ensures commands keeps in
    left_from_files g.D.Disk.seen g.D.Disk.may_leave g.D.Disk.is_clean c.append.new.self commands left (Registered c.args.id c.args.subject.now c.args.text.now) files leaves
