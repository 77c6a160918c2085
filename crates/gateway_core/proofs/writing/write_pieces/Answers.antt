-- The first piece was written, and a beginning of the second.
use Rattle.gateway_core.proofs.Writes.{second_begun}
use Rattle.gateway_core.proofs.writing.write_pieces.Goals as goal

pub returns-in-Err-clause-err : goal.returns-in-Err-clause-err
returns-in-Err-clause-err g c = second_begun _ _ _ c.args.front.now c.args.rest.now c.in-Err.cut.sent c.in_ok-write_piece.ensures.ok c.in-Err.ensures.err
