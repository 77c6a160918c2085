-- The start reads what the crash left, which is what the store has.
use Rattle.std.proofs.Common.{◌++◌, [], ◌∷◌}
use Rattle.registry_store.specs.Schemas.{registration, registrations}
use Rattle.registry_store.proofs.Restarts.{found-kept, found-one}
use Rattle.registry_store.specs.Laws.Plain.{on-ok}
use Rattle.registry_store.proofs.upstream_opening.UpstreamStore.keep_and_crash.Goals as goal

pub returns-clause-kept : goal.returns-clause-kept
returns-clause-kept g c =
    let D = g.D.Disk in
    let kept = c.keep_registration-answer.new.self in
    let old = registrations c.args.url.now c.args.self.schemas.items in
    let new = old ++ registration c.args.url.now c.args.schema.now ∷ [] in
    let left = rw c.into_disk-disk.ensures at c.crash.ensures.left in
    let before = rw c.into_disk-disk.ensures at c.crash.ensures.clean in
    let found = c.open-found in
    on-ok _ _
    (λ keeps. found-kept D.seen D.may_leave D.is_clean c.args.url.now kept c.crash.new.self before left new found.result found.ensures.schemas found.ensures.clean (keeps old c.requires))
    c.keep_registration-answer.result (rw c.as_str.ensures.value at c.keep_registration-answer.ensures.kept)

pub returns-clause-crash : goal.returns-clause-crash
returns-clause-crash g c =
    let D = g.D.Disk in
    let kept = c.keep_registration-answer.new.self in
    let old = registrations c.args.url.now c.args.self.schemas.items in
    let command = registration c.args.url.now c.args.schema.now in
    let left = rw c.into_disk-disk.ensures at c.crash.ensures.left in
    let before = rw c.into_disk-disk.ensures at c.crash.ensures.clean in
    let files = rw c.as_str.ensures.value at c.keep_registration-answer.ensures.files in
    let found = c.open-found in
    found-one D.seen D.may_leave D.is_clean c.args.url.now kept c.crash.new.self before left old command (files old c.requires) found.result found.ensures.schemas found.ensures.clean
