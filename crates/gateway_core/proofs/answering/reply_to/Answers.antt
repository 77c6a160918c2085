-- The bytes and the status of the answer.
use Rattle.std.proofs.Common.{◌++◌, None}
use Rattle.gateway_requests.specs.Answer.{answer_of}
use Rattle.gateway_core.proofs.Answered.{replied, reply_told}
use Rattle.gateway_core.proofs.answering.reply_to.Goals as goal

pub returns-clause-replied : goal.returns-clause-replied
returns-clause-replied g c = λ input tells.
    let told = c.answer_request-answer in
    let bytes = c.in_ok-bytes.bytes in
    replied _ c.args.app.now.registry.now input told.result.evidence (answer_of told.result.answer)
    (bytes.front.items ++ bytes.rest.items) c.in_ok-bytes.status (told.ensures.answers input tells) c.in_ok-bytes.ensures

pub returns-clause-told : goal.returns-clause-told
returns-clause-told g c = λ asked tells.
    let told = c.answer_request-answer in
    let bytes = c.in_ok-bytes.bytes in
    reply_told _ c.args.app.now.registry.now None told.result.evidence (answer_of told.result.answer) asked
    (bytes.front.items ++ bytes.rest.items) c.in_ok-bytes.status (told.ensures.told asked tells) c.in_ok-bytes.ensures
