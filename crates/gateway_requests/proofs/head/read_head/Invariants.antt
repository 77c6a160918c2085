-- The bytes that were received are those that the reader gave, and begin with no head.
use Rattle.std.proofs.Common.{◌≤◌, ◌-◌, ◌≡◌, length, take}
use Rattle.std.specs.Io.KnownBytes.{Consumes}
use Rattle.spec_service.specs.declared.limits.TheConstants.{MOST_FIELDS, MOST_HEAD}
use Rattle.gateway_requests.proofs.Fronts.{NoneYet}
use Rattle.gateway_requests.proofs.head.read_head.Given as goal

abbrev pub invariant-loop-received : goal.invariant-loop-received
invariant-loop-received g l = record {
  bound : l.received ≤ length l.buffer;
  room : length l.buffer ≡ MOST_HEAD;
  fields : length l.headers ≡ MOST_FIELDS;
  taken : Consumes (g.R.Read.remaining l.fn.reader) (g.R.Read.remaining l.reader) (take l.received l.buffer);
  none : NoneYet (take l.received l.buffer);
}

abbrev pub decreases-loop-received : goal.decreases-loop-received
decreases-loop-received g l = length l.buffer - l.received
