use Rattle.std.proofs.Common.{List, ap, subst, ◌∙◌, IfOk, IsTrue}
use Rattle.spec_registry.specs.Command.{Command}
use Rattle.spec_registry.specs.Storing.{IsFoundAfter}
use Rattle.schema_registry.proofs.KeptStores.{after-crash, no-fault-named}
use Rattle.schema_registry.proofs.Replays.{on-err}
use Rattle.registry_store.specs.Laws.Plain.{on-ok}
use Rattle.schema_registry.proofs.kept_registry.crashing.KeptRegistry+CommandStore+D.apply_and_crash.Goals as goal

pub returns-clause-answered : goal.returns-clause-answered
returns-clause-answered g c =
    let D = g.D.Disk in
    let kept = c.kept.inside in
    let left = rw c.into_disk-disk.ensures at c.crash.ensures.left in
    let before = rw c.into_disk-disk.ensures at c.crash.ensures.clean in
    let started = c.from_disk-found in
    let after = after-crash D.seen D.may_leave D.is_clean kept.keeper kept.registry c.kept.invariant (D.seen c.crash.new.self) left c.crash.new.self before started.result
    started.ensures.commands started.ensures.clean in
    on-ok _ _ (λ is. subst (λ (cs : List Command). IfOk started.result (λ r. IsTrue (D.is_clean r.store.journal.disk) → IsFoundAfter cs r.registry)) (ap (λ w. w.registry) c.kept.view_is ∙ is) after)
    c.apply-answer.result c.apply-answer.ensures.ok

pub returns-clause-refused : goal.returns-clause-refused
returns-clause-refused g c =
    let D = g.D.Disk in
    let kept = c.kept.inside in
    let left = rw c.into_disk-disk.ensures at c.crash.ensures.left in
    let before = rw c.into_disk-disk.ensures at c.crash.ensures.clean in
    let started = c.from_disk-found in
    let after = after-crash D.seen D.may_leave D.is_clean kept.keeper kept.registry c.kept.invariant (D.seen c.crash.new.self) left c.crash.new.self before started.result
    started.ensures.commands started.ensures.clean in
    on-err _ _ (λ is. subst (λ (cs : List Command). IfOk started.result (λ r. IsTrue (D.is_clean r.store.journal.disk) → IsFoundAfter cs r.registry)) (ap (λ w. w.registry) c.kept.view_is ∙ is) after)
    c.apply-answer.result c.apply-answer.ensures.err

pub returns-clause-whole : goal.returns-clause-whole
returns-clause-whole g c =
    let D = g.D.Disk in
    let kept = c.kept.inside in
    let left = rw c.into_disk-disk.ensures at c.crash.ensures.left in
    let before = rw c.into_disk-disk.ensures at c.crash.ensures.clean in
    let started = c.from_disk-found in
    let accepted = rw (c.registry.ensures, ← c.kept.view_is) at c.is_accepted.ensures in
    no-fault-named D.seen D.may_leave D.is_clean kept.keeper kept.registry c.kept.invariant (D.seen c.crash.new.self) left c.crash.new.self before accepted started.result
    started.ensures.why started.ensures.clean_err
