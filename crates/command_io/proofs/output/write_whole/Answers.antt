-- A write more, a write again, and the beginning that a fault leaves.
use Rattle.std.proofs.Common.{arith, refl}
use Rattle.std.proofs.lemmas.List.{length-drop, take_rest}
use Rattle.command_io.proofs.Traffic.{begins, sent_again, sent_more}
use Rattle.command_io.proofs.output.write_whole.Goals as goal
use Rattle.command_io.proofs.output.write_whole.Goals.{in-Ok, in-Err}

pub returns-in-Ok-eq0-clause-err : goal.returns-in-Ok-eq0-clause-err
returns-in-Ok-eq0-clause-err g c =
    begins _ _ _ _ (sent_more _ _ _ _ _ c.write.result _ _ c.loop-turn.invariant.sent c.write.ensures.bytes c.in-Ok-eq0.is refl)

pub returns-in-Err-2-clause-err : goal.returns-in-Err-2-clause-err
returns-in-Err-2-clause-err g c =
    begins _ _ _ _ (sent_again _ _ _ _ _ c.write.result _ _ c.loop-turn.invariant.sent c.write.ensures.bytes c.in-Err-2.is refl)

pub loop-turn-preserved : goal.loop-turn-preserved
loop-turn-preserved g c = elim c.match-write.branch [
  | in-Ok w ↦ record {
    bound =
        let all = c.args.bytes.now in
        let fits = rw (take_rest all c.loop-turn.sent, length-drop c.loop-turn.sent all) at w.in-Ok.ensures.bound in
        omega (arith, fits, w.sent-is, c.loop-turn.invariant.bound);
    sent = sent_more _ _ _ _ _ c.write.result _ _ c.loop-turn.invariant.sent c.write.ensures.bytes w.in-Ok.is w.sent-is;
  }
  | in-Err w ↦ record {
    bound = omega (arith, w.sent-is, c.loop-turn.invariant.bound);
    sent = sent_again _ _ _ _ _ c.write.result _ _ c.loop-turn.invariant.sent c.write.ensures.bytes w.in-Err.is w.sent-is;
  }
]

pub returns-clause-err : goal.returns-clause-err
returns-clause-err g c = begins _ _ _ _ c.loop-turn.invariant.sent
