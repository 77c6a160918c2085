-- The reply was made to what is asked over the connection.
use Rattle.gateway_server.proofs.Replied.{replied_over}
use Rattle.gateway_server.proofs.client.reply_over.Goals as goal

pub returns-clause-replied : goal.returns-clause-replied
returns-clause-replied g c =
    let parts = c.into_parts-request in
    let reply = c.in_ok-reply.reply in
    replied_over _ c.args.pending parts.result.1 parts.result.0 reply.bytes reply.status c.answer.result parts.ensures.connection
    parts.ensures.asks (λ asked tells. (reply.evidence, c.in_ok-reply.ensures.told asked tells)) c.answer.ensures
