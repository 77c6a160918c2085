-- What was received so far follows what had come, and nothing was sent.
use Rattle.std.proofs.Common.{◌≡◌}
use Rattle.gateway_requests.specs.Exchange.{Gains}
use Rattle.spec_service.specs.Persistent.{received}
use Rattle.persistent_exchange.specs.Persistent.{sent}
use Rattle.persistent_exchange.proofs.stream.RequestStream.receive.Given as goal

abbrev pub invariant-loop : goal.invariant-loop
invariant-loop g l =
    Gains (g.R.Read.remaining l.fn.reader) (g.R.Read.remaining l.reader) (received l.fn.self) (received l.self)
    × (sent l.self ≡ sent l.fn.self)
