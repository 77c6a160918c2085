-- A beginning of the reply's bytes.
use Rattle.std.proofs.Common.{◌++◌}
use Rattle.gateway_core.proofs.serving.serve_and_tell.Goals as goal

pub returns-clause-fault : goal.returns-clause-fault
returns-clause-fault g c =
    let reply = c.in_ok-reply.reply in
    record {
      bytes = reply.bytes.front.items ++ reply.bytes.rest.items;
      status = reply.status;
      replied = c.in_ok-reply.ensures.replied _ c.in_ok-request.ensures.ok;
      written = rw (c.deref.ensures.value, c.deref-2.ensures.value) at c.in-Err.ensures.err;
      few = rw (c.deref.ensures.value, c.deref-2.ensures.value) at c.in-Err.ensures.few;
    }
