-- The pieces so far go before those that are left.
use Rattle.commands.proofs.PiecesLeft.{GoBefore, size_left}
use Rattle.commands.proofs.pieces.pieces_of.Given as goal

abbrev pub invariant-loop-rest : goal.invariant-loop-rest
invariant-loop-rest l = GoBefore l.pieces l.rest l.line

abbrev pub decreases-loop-rest : goal.decreases-loop-rest
decreases-loop-rest l = size_left l.rest
