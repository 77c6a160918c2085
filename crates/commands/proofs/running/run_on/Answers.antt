-- One piece more.
use Rattle.std.proofs.Common.{◌++◌, sym, ap, ◌∙◌}
use Rattle.commands.proofs.PiecesLeft.{concat_next}
use Rattle.commands.proofs.running.run_on.Goals as goal

pub loop-number-preserved : goal.loop-number-preserved
loop-number-preserved c =
    let so_far = c.loop-number.invariant in
    let pushed = c.in_ok-push.ensures.pushed in
    let kept = c.in_ok-take_rows.ensures.kept in
    record {
      program = ap (λ r. r.program) kept ∙ ap (λ r. r.program) pushed ∙ so_far.program;
      input =
          ap (λ r. r.input) kept ∙ ap (λ r. r.input) pushed ∙ ap (λ bytes. bytes ++ c.list.result.now) so_far.input
          ∙ sym (concat_next c.args.pieces.now c.loop-number.number c.list.result.now c.list.ensures);
      unclosed = ap (λ r. r.ended) kept ∙ ap (λ r. r.ended) pushed ∙ so_far.unclosed;
      most = c.in_ok-take_rows.ensures.most;
    }
