-- The answer to a fault of the request.
use Rattle.std.proofs.Common.{None}
use Rattle.gateway_requests.specs.Answer.{answer_of}
use Rattle.gateway_core.proofs.Answered.{fault_answered, fault_told}
use Rattle.gateway_core.proofs.answering.answer_request.Goals as goal

pub returns-in-Err-clause-answers : goal.returns-in-Err-clause-answers
returns-in-Err-clause-answers g c = λ input tells.
    let told = c.refused-in-Err in
    fault_answered _ _ input told.result.evidence (answer_of told.result.answer) _ c.args.request c.in-Err.is
    told.ensures.answer tells

pub returns-in-Err-clause-told : goal.returns-in-Err-clause-told
returns-in-Err-clause-told g c = λ asked tells.
    let told = c.refused-in-Err in
    fault_told _ _ None told.result.evidence (answer_of told.result.answer) _ c.args.request c.in-Err.is
    told.ensures.answer asked tells
