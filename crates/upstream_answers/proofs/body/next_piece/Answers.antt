-- A piece, the end, or no body.
use Rattle.std.proofs.Common.{arith, rules, sym, ◌∙◌}
use Rattle.std.proofs.lemmas.Bool.{false≢true}
use Rattle.std.proofs.lemmas.List.{take_rest}
use Rattle.std.proofs.lemmas.Grind.{common_steps}
use Rattle.upstream_answers.proofs.Bodies.{content_goes_on, piece_too_long, content_ends, content_closes, no_content}
use Rattle.upstream_answers.proofs.body.next_piece.Goals as goal
use Rattle.upstream_answers.proofs.body.next_piece.Goals.{in-UntilClose, in_default}

pub returns-then-piece-len-clause-err : goal.returns-then-piece-len-clause-err
returns-then-piece-len-clause-err c = λ other.
    let found = rw c.in-Ok-Data.field-0-is at c.in-Ok-Data.ensures.ok in
    piece_too_long _ _ _ _ _ _ found.1 (search (rules, arith))

pub returns-in_ok-extend_from_slice-in-Ok-Data-clause-ok : goal.returns-in_ok-extend_from_slice-in-Ok-Data-clause-ok
returns-in_ok-extend_from_slice-in-Ok-Data-clause-ok c =
    let found = rw c.in-Ok-Data.field-0-is at c.in-Ok-Data.ensures.ok in
    let some = found.0 in
    let within = found.1.within in
    let items = c.in_ok-extend_from_slice-in-Ok-Data.ensures.items in (
      content_goes_on _ _ _ _ _ _ found.1 _ _ (search (rules, take_rest)) items,
      grind (arith, common_steps),
      grind (arith, common_steps),
    )

pub returns-in-Ok-End-clause-ok : goal.returns-in-Ok-End-clause-ok
returns-in-Ok-End-clause-ok c =
    let found = rw c.in-Ok-End.field-0-is at c.in-Ok-End.ensures.ok in
    content_ends _ _ c.decode.new.trailers _ _ _ found (search (rules, arith)) (search (rules, arith))

pub returns-else-not-matches-clause-ok : goal.returns-else-not-matches-clause-ok
returns-else-not-matches-clause-ok c =
    let found = rw c.in-Ok-NeedMore.field-0-is at c.in-Ok-NeedMore.ensures.ok in
    elim c.match-matches.branch [
      | in-UntilClose w ↦ content_closes _ _ _ _ _ w.in-UntilClose.is found (search (rules, arith))
      | in_default w ↦ absurd (false≢true (sym w.matches-is ∙ c.if-not-matches.false))
    ]

pub returns-in-Err-clause-err : goal.returns-in-Err-clause-err
returns-in-Err-clause-err c = λ other. no_content _ _ _ (rw c.requires.room at c.in-Err.ensures.err)
