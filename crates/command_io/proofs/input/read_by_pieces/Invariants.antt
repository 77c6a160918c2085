-- What was read so far is what the reader gave.
use Rattle.std.specs.Io.KnownBytes.{Consumes}
use Rattle.command_io.proofs.input.read_by_pieces.Given as goal

abbrev pub invariant-loop-turn : goal.invariant-loop-turn
invariant-loop-turn g l = Consumes (g.R.Read.remaining l.fn.reader) (g.R.Read.remaining l.reader) l.all.items
