-- The reader lost nothing so far.
use Rattle.std.specs.Io.KnownBytes.{Keeps}
use Rattle.gateway_requests.proofs.head.read_once.Given as goal

abbrev pub invariant-loop-try : goal.invariant-loop-try
invariant-loop-try g l = Keeps (g.R.Read.remaining l.fn.reader) (g.R.Read.remaining l.reader)
