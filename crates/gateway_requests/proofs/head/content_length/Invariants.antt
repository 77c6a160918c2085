-- The length after the fields so far, and those to come, give the length.
use Rattle.std.proofs.Common.{◌≡◌, drop, map, option_map}
use Rattle.httparse.specs.Spans.{header_bytes}
use Rattle.spec_service.specs.ContentLength.{declared_length, length_from}
use Rattle.gateway_requests.proofs.head.content_length.Given as goal

abbrev pub invariant-loop-header : goal.invariant-loop-header
invariant-loop-header l =
    length_from (option_map (λ d. d.now) l.found) (map (header_bytes l.bytes) (drop l.header-index l.headers))
    ≡ declared_length (map (header_bytes l.bytes) l.headers)
