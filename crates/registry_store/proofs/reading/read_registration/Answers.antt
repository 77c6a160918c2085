use Rattle.std.proofs.Common.{◌≡◌, ◌∷◌, ◌++◌, arith, refl, string_bytes}
use Rattle.std.proofs.lemmas.Str.{IsUtf8-string_bytes}
use Rattle.std.proofs.lemmas.Result.{err_from_is_err_and}
use Rattle.std.specs.Prelude.{decimal}
use Rattle.registry_store.proofs.Fields.{decimal_lacks, word_lacks_space}
use Rattle.registry_store.specs.Line.{readable, word}
use Rattle.registry_store.specs.declared.format.TheConstants.{TEXT_ESCAPES, WORD_ESCAPES}
use Rattle.registry_store.proofs.reading.read_registration.Goals as goal

pub returns-in_default-clause-reads : goal.returns-in_default-clause-reads
returns-in_default-clause-reads c = λ id subject text may e.
    absurd (c.in_default.ensures (decimal id) (word subject ++ 32 ∷ readable text) (decimal_lacks 32 id (omega arith) (omega (arith, may.0))) e)

pub returns-in_default-split_field-clause-reads : goal.returns-in_default-split_field-clause-reads
returns-in_default-split_field-clause-reads c = λ id subject text may e.
    let first = c.in-Some.ensures (decimal id) (word subject ++ 32 ∷ readable text) (decimal_lacks 32 id (omega arith) (omega (arith, may.0))) e in
    absurd (c.in_default-split_field.ensures (word subject) (readable text) (word_lacks_space subject) first.1)

pub returns-in_default-read_id-clause-reads : goal.returns-in_default-read_id-clause-reads
returns-in_default-read_id-clause-reads c = λ id subject text may e.
    let first = c.in-Some.ensures (decimal id) (word subject ++ 32 ∷ readable text) (decimal_lacks 32 id (omega arith) (omega (arith, may.0))) e in
    absurd (c.in_default-read_id.ensures.reads id may.0 first.0)

pub returns-in_err-subject-clause-reads : goal.returns-in_err-subject-clause-reads
returns-in_err-subject-clause-reads c = λ id subject text may e.
    let first = c.in-Some.ensures (decimal id) (word subject ++ 32 ∷ readable text) (decimal_lacks 32 id (omega arith) (omega (arith, may.0))) e in
    let second = c.in-Some-split_field.ensures (word subject) (readable text) (word_lacks_space subject) first.1 in
    let p = err_from_is_err_and c.from_residual.result c.from_residual.ensures.1 in
    rw (p.1, p.2) (c.in_err-subject.ensures.reads WORD_ESCAPES subject refl may.1 second.0)

pub returns-in_err-text-clause-reads : goal.returns-in_err-text-clause-reads
returns-in_err-text-clause-reads c = λ id subject text may e.
    let first = c.in-Some.ensures (decimal id) (word subject ++ 32 ∷ readable text) (decimal_lacks 32 id (omega arith) (omega (arith, may.0))) e in
    let second = c.in-Some-split_field.ensures (word subject) (readable text) (word_lacks_space subject) first.1 in
    let p = err_from_is_err_and c.from_residual-in_err-text.result c.from_residual-in_err-text.ensures.1 in
    rw (p.1, p.2) (c.in_err-text.ensures.reads TEXT_ESCAPES text refl may.2 second.1)

pub returns-clause-reads : goal.returns-clause-reads
returns-clause-reads c = λ id subject text may e.
    let first = c.in-Some.ensures (decimal id) (word subject ++ 32 ∷ readable text) (decimal_lacks 32 id (omega arith) (omega (arith, may.0))) e in
    let second = c.in-Some-split_field.ensures (word subject) (readable text) (word_lacks_space subject) first.1 in
    let same_id : c.in-Some-read_id.id ≡ id = c.in-Some-read_id.ensures.reads id may.0 first.0 in
    let same_subject : string_bytes c.in_ok-subject.subject ≡ subject = c.in_ok-subject.ensures.reads WORD_ESCAPES subject refl may.1 second.0 in
    let same_text : string_bytes c.in_ok-text.text ≡ text = c.in_ok-text.ensures.reads TEXT_ESCAPES text refl may.2 second.1 in
    cc

pub returns-clause-may : goal.returns-clause-may
returns-clause-may c = (c.in-Some-read_id.ensures.fits, IsUtf8-string_bytes c.in_ok-subject.subject, IsUtf8-string_bytes c.in_ok-text.text)
