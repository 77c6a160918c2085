-- A payload that passes the limit, and one that is run.
use Rattle.std.proofs.Common.{◌∙◌, ap, subst, sym}
use Rattle.std.specs.List.{concat}
use Rattle.spec_machine.specs.State.{State}
use Rattle.machine.specs.Running.{Running}
use Rattle.spec_lines.specs.Running.{StopsIn}
use Rattle.commands.proofs.PiecesLeft.{large_written, run_written}
use Rattle.commands.proofs.running.push_run_answer.Goals as goal

pub returns-else-total_is_within : goal.returns-else-total_is_within
returns-else-total_is_within c =
    large_written c.args.program.now c.args.steps c.args.pieces.now _ _ c.push_str.result (sym c.total_is_within.ensures ∙ c.if-total_is_within.false) c.push_str.ensures.bytes

pub returns-in_ok-run : goal.returns-in_ok-run
returns-in_ok-run c =
    let P = c.args.program.now in
    let steps = c.args.steps in
    let pieces = c.args.pieces.now in
    let same = ap (λ (r : Running). r.state) c.machine.ensures in
    let stops = subst (λ (s : State). StopsIn P (concat pieces) steps s) (sym same) c.in_ok-run.ensures in
    run_written P steps pieces _ _ c.push_run.result _ (sym c.total_is_within.ensures ∙ c.if-total_is_within.true) stops c.push_run.ensures
