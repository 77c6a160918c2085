-- The writer took nothing so far.
use Rattle.std.specs.Io.KnownBytes.{Keeps}
use Rattle.gateway_core.proofs.writing.write_once.Given as goal

abbrev pub invariant-loop-try : goal.invariant-loop-try
invariant-loop-try g l = Keeps (g.W.Write.contents l.fn.writer) (g.W.Write.contents l.writer)
