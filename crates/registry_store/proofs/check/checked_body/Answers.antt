use Rattle.std.proofs.Common.{◌∙◌, ◌-◌, length, refl, sym, arith}
use Rattle.std.proofs.lemmas.Bool.{false≢true}
use Rattle.std.proofs.lemmas.Bool.Decides.{Decides-eqb}
use Rattle.std.proofs.lemmas.Slice.Eq.{slice_eq-Decides}
use Rattle.registry_store.proofs.Checks.{IsCut-checked, checked_from_cut, no_check_from_cut}
use Rattle.registry_store.proofs.check.checked_body.Goals as goal

pub returns-then-line-lt-END_LEN-clause-missing : goal.returns-then-line-lt-END_LEN-clause-missing
returns-then-line-lt-END_LEN-clause-missing c = λ found. let cut = IsCut-checked _ found.0 found.1 in let long = cut.long in absurd (omega arith)

pub returns-then-eq-clause-found : goal.returns-then-eq-clause-found
returns-then-eq-clause-found c =
    let same = (slice_eq-Decides Decides-eqb _ _ _ c.eq.ensures).0 c.if-eq.true in
    checked_from_cut _ _ _ _ c.split_at.ensures.front c.split_at.ensures.back (same ∙ c.as_slice.ensures ∙ c.line_end-wanted.ensures)

pub returns-else-eq-clause-missing : goal.returns-else-eq-clause-missing
returns-else-eq-clause-missing c =
    no_check_from_cut c.args.line.now _ _ (length c.args.line.now - 17) refl c.split_at.ensures.front c.split_at.ensures.back (λ e.
    let same = (slice_eq-Decides Decides-eqb _ _ _ c.eq.ensures).1 (e ∙ sym (c.as_slice.ensures ∙ c.line_end-wanted.ensures)) in
    false≢true (sym c.if-eq.false ∙ same))
