use Rattle.std.proofs.Common.{◌≡◌, refl, string_bytes}
use Rattle.std.proofs.lemmas.Str.{IsUtf8-string_bytes}
use Rattle.std.proofs.lemmas.Result.{err_from_is_err_and}
use Rattle.std.specs.Prelude.{option_map}
use Rattle.registry_store.proofs.Bodies.{subject_lacks_space}
use Rattle.registry_store.specs.Line.{subject_word, word}
use Rattle.registry_store.specs.declared.format.TheConstants.{WORD_ESCAPES}
use Rattle.registry_store.proofs.reading.read_level.Goals as goal

pub returns-in_default-clause-reads : goal.returns-in_default-clause-reads
returns-in_default-clause-reads c = λ subject level may e.
    absurd (c.in_default.ensures (subject_word subject) (word level) (subject_lacks_space subject) e)

pub returns-in_err-subject-clause-reads : goal.returns-in_err-subject-clause-reads
returns-in_err-subject-clause-reads c = λ subject level may e.
    let fields = c.in-Some.ensures (subject_word subject) (word level) (subject_lacks_space subject) e in
    let p = err_from_is_err_and c.from_residual.result c.from_residual.ensures.1 in
    rw (p.1, p.2) (c.in_err-subject.ensures.reads subject may.0 fields.0)

pub returns-in_err-level-clause-reads : goal.returns-in_err-level-clause-reads
returns-in_err-level-clause-reads c = λ subject level may e.
    let fields = c.in-Some.ensures (subject_word subject) (word level) (subject_lacks_space subject) e in
    let p = err_from_is_err_and c.from_residual-in_err-level.result c.from_residual-in_err-level.ensures.1 in
    rw (p.1, p.2) (c.in_err-level.ensures.reads WORD_ESCAPES level refl may.1 fields.1)

pub returns-clause-reads : goal.returns-clause-reads
returns-clause-reads c = λ subject level may e.
    let fields = c.in-Some.ensures (subject_word subject) (word level) (subject_lacks_space subject) e in
    let same_subject : option_map string_bytes c.in_ok-subject.subject ≡ subject = c.in_ok-subject.ensures.reads subject may.0 fields.0 in
    let same_level : string_bytes c.in_ok-level.level ≡ level = c.in_ok-level.ensures.reads WORD_ESCAPES level refl may.1 fields.1 in
    cc

pub returns-clause-may : goal.returns-clause-may
returns-clause-may c = (c.in_ok-subject.ensures.is_text, IsUtf8-string_bytes c.in_ok-level.level)
