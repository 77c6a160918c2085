use Rattle.std.proofs.Common.{option_map, string_bytes}
use Rattle.std.proofs.lemmas.Result.{err_from_is_err_and}
use Rattle.spec_registry.specs.Accepting.{registry_after}
use Rattle.schema_registry.proofs.Replays.{if-err, level-read-of, level-stored, level-why, no-level}
use Rattle.registry_store.specs.Laws.Plain.{on-ok}
use Rattle.schema_registry.proofs.registry.Registry.replay.Goals as goal

pub returns-in_err-level-in-Level-clause-why : goal.returns-in_err-level-in-Level-clause-why
returns-in_err-level-in-Level-clause-why c =
    let p = err_from_is_err_and c.from_residual.result c.from_residual.ensures.1 in
    let word = string_bytes c.in-Level.level in
    let none = rw c.deref.ensures at c.in_err-level-in-Level.ensures in
    rw (p.1, p.2, c.in-Level.is) (λ k same. absurd (no-level c.in_err-level-in-Level.field-0.0 word (option_map string_bytes c.in-Level.subject) none k same))

pub returns-in_ok-level-in-Level-clause-kept : goal.returns-in_ok-level-in-Level-clause-kept
returns-in_ok-level-in-Level-clause-kept c =
    let subject = option_map string_bytes c.in-Level.subject in
    let word = string_bytes c.in-Level.level in
    let level = c.in_ok-level-in-Level.level in
    let name = level-read-of word level (rw c.deref.ensures at c.in_ok-level-in-Level.ensures) in
    rw c.in-Level.is (on-ok _ _ (level-stored c.args.self.now c.replay_level.new.self subject word level name) c.replay_level.result c.replay_level.ensures.kept)

pub returns-in_ok-level-in-Level-clause-why : goal.returns-in_ok-level-in-Level-clause-why
returns-in_ok-level-in-Level-clause-why c =
    let subject = option_map string_bytes c.in-Level.subject in
    let word = string_bytes c.in-Level.level in
    let level = c.in_ok-level-in-Level.level in
    let name = level-read-of word level (rw c.deref.ensures at c.in_ok-level-in-Level.ensures) in
    rw c.in-Level.is (if-err _ _ (level-why (registry_after c.args.self.now) subject word level name) c.replay_level.result c.replay_level.ensures.why)
