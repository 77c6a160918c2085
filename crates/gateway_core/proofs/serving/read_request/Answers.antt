-- The head that was found is that of all bytes, or there is none in them.
use Rattle.gateway_requests.specs.Front.{IsFrontOf}
use Rattle.gateway_requests.specs.declared.head.Front.TheVariants.{Head}
use Rattle.gateway_core.proofs.Asked.{if_asks, no_head_asks}
use Rattle.gateway_core.proofs.serving.read_request.Goals as goal

pub returns-in-NoHead-clause-ok : goal.returns-in-NoHead-clause-ok
returns-in-NoHead-clause-ok g c = no_head_asks _ (rw c.in-NoHead.is at c.in_ok-read_head.ensures.front)

pub returns-in-Head-clause-ok : goal.returns-in-Head-clause-ok
returns-in-Head-clause-ok g c =
    let front : IsFrontOf (g.R.Read.remaining c.args.reader.now) (g.R.Read.remaining c.read_head.new.reader) c.read_head.new.buffer c.read_head.new.headers (Head c.in-Head.spans c.in-Head.received) =
    rw c.in-Head.is at c.in_ok-read_head.ensures.front in
    if_asks _ _ _ _ _ front.3 front.1 front.4 front.5 _ (c.request_behind.ensures.ok front.3 front.4)
