use Rattle.std.proofs.Common.{◌≡◌, ◌∙◌, sym, codes}
use Rattle.std.proofs.lemmas.Str.{IsUtf8-string_bytes}
use Rattle.std.proofs.lemmas.Bool.Decides.{Decides-eqb}
use Rattle.std.proofs.lemmas.Slice.Eq.{slice_eq-Decides}
use Rattle.registry_store.proofs.Bodies.{subject_is_star}
use Rattle.registry_store.proofs.reading.read_subject.Goals as goal

pub returns-then-eq-clause-reads : goal.returns-then-eq-clause-reads
returns-then-eq-clause-reads c = λ subject is_subject e.
    let star : c.args.field.now ≡ codes "*" = (slice_eq-Decides Decides-eqb _ _ _ c.eq.ensures).0 c.if-eq.true ∙ c.as_slice.ensures in
    subject_is_star subject (sym star ∙ e)

pub returns-clause-is_text : goal.returns-clause-is_text
returns-clause-is_text c = IsUtf8-string_bytes c.in_ok-read_text.field-0
