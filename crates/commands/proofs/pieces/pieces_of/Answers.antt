-- A piece more, what is no piece, and no piece more.
use Rattle.std.proofs.Common.{ap, ◌∙◌, ◌∷◌, [], ◌++◌}
use Rattle.commands.proofs.PiecesLeft.{piece_fails, piece_read, pieces_read}
use Rattle.commands.proofs.pieces.pieces_of.Goals as goal

pub returns-in_default-2 : goal.returns-in_default-2
returns-in_default-2 c =
    piece_fails c.args.line.now c.loop-rest.pieces c.loop-rest.rest c.split_bar.result.1 c.in-Some.left c.split_bar.result.0.now
    c.loop-rest.invariant c.in-Some.is c.split_bar.ensures (rw c.in_default-2.is at c.in_ok-piece.ensures)

pub loop-rest-preserved : goal.loop-rest-preserved
loop-rest-preserved c =
    piece_read c.args.line.now c.loop-rest.pieces c.loop-rest.rest c.split_bar.result.1 c.in-Some.left c.split_bar.result.0.now
    c.loop-rest.invariant c.in-Some.is c.split_bar.ensures c.in-Some-2.piece.items c.push.new.self (rw c.in-Some-2.is at c.in_ok-piece.ensures)
    (c.in_ok-push.ensures.pushed ∙ ap (λ piece. c.loop-rest.pieces ++ piece ∷ []) c.deref.ensures.value)

pub returns : goal.returns
returns c = pieces_read c.args.line.now c.loop-rest.pieces c.loop-rest.rest c.loop-rest.invariant c.in_default.is
