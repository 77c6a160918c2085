use Rattle.std.proofs.Common.{⊎_elim, inl, inr, ◌∙◌}
use Rattle.std.proofs.lemmas.Result.{IfOk-weaker, IfErr-weaker}
use Rattle.line_journal.proofs.Steps.{of_ok, same_lines, no_damage, at_rest-lines}
use Rattle.line_journal.proofs.journal.Journal.append_and_crash.Goals as goal

pub returns-clause-before_or_after : goal.returns-clause-before_or_after
returns-clause-before_or_after g c =
    IfOk-weaker c.open-found.result _ _ (λ r read clean lines rests.
    ⊎_elim (λ old. inl (same_lines _ _ _ (read clean) old)) (λ new. inr (same_lines _ _ _ (read clean) new))
    (c.append-answer.ensures.crash lines rests _ c.crash.ensures.left)) c.open-found.ensures.lines

pub returns-clause-answered : goal.returns-clause-answered
returns-clause-answered g c is_ok =
    IfOk-weaker c.open-found.result _ _ (λ r read clean lines rests.
    let kept = of_ok c.append-answer.result is_ok c.append-answer.ensures.kept lines rests in
    same_lines _ _ _ (read clean) (at_rest-lines _ _ kept.are_lines (kept.durable _ c.crash.ensures.left ∙ kept.file))) c.open-found.ensures.lines

pub returns-clause-whole : goal.returns-clause-whole
returns-clause-whole g c =
    IfErr-weaker c.open-found.result _ _ (λ e damaged damage is clean lines rests.
    let read = damaged damage is clean in
    ⊎_elim (λ old. no_damage _ _ damage old read) (λ new. no_damage _ _ damage new read)
    (c.append-answer.ensures.crash lines rests _ c.crash.ensures.left)) c.open-found.ensures.damaged
