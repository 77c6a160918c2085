-- One more part was written.
use Rattle.std.proofs.Common.{arith}
use Rattle.std.proofs.lemmas.List.{length-drop, take_rest}
use Rattle.gateway_core.proofs.Writes.{sent_more}
use Rattle.gateway_core.proofs.writing.write_piece.Goals as goal

pub loop-sent-preserved : goal.loop-sent-preserved
loop-sent-preserved g c = record {
  bound =
      let fits = rw (take_rest c.args.bytes.now c.loop-sent.sent, length-drop c.loop-sent.sent c.args.bytes.now) at c.in-Ok.ensures.bound in
      omega (arith, fits, c.loop-sent.invariant.bound);
  sent = sent_more _ _ _ _ _ _ c.loop-sent.invariant.sent c.in-Ok.ensures.bytes;
}
