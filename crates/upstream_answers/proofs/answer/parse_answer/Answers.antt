-- The answer, or none.
use Rattle.std.proofs.Common.{rules}
use Rattle.std.proofs.lemmas.List.{take_rest}
use Rattle.std.proofs.lemmas.Result.{err_from_is_err_and}
use Rattle.upstream_answers.specs.Parts.{IsHeadOf}
use Rattle.upstream_answers.proofs.Answered.{answer_of, content_in, no_answer}
use Rattle.upstream_answers.proofs.answer.parse_answer.Goals as goal

pub returns-in_default : goal.returns-in_default
returns-in_default c = record { ok = tt; err = λ other. no_answer _ _ c.front_of.ensures.front c.in_default.not-Head }

pub returns-clause-ok : goal.returns-clause-ok
returns-clause-ok c =
    let is : IsHeadOf c.args.received.now c.in-Head.head = c.in-Head.ensures.front in
    answer_of _ c.in-Head.head is _ (search (rules, take_rest))

pub returns-in_err-content-clause-err : goal.returns-in_err-content-clause-err
returns-in_err-content-clause-err c =
    let is : IsHeadOf c.args.received.now c.in-Head.head = c.in-Head.ensures.front in
    let p = err_from_is_err_and c.from_residual.result c.from_residual.ensures.1 in
    rw (p.1, p.2) (λ other status content answer.
    let has = content_in _ c.in-Head.head is status content answer in
    c.in_err-content.ensures.err other content (search (rules, take_rest)))
