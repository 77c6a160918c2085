use Rattle.std.proofs.Common.{reverse}
use Rattle.std.specs.Prelude.{string_bytes}
use Rattle.spec_lines.specs.Show.{call_line}
use Rattle.debugger.proofs.Lines.{one_more}
use Rattle.debugger.proofs.frames.push_calls.Goals as goal

pub loop-number-preserved : goal.loop-number-preserved
loop-number-preserved c =
    rw c.in_ok-push_call.ensures
    (one_more call_line (string_bytes c.args.output.now) (string_bytes c.loop-number.output) c.loop-number.number (reverse c.args.machine.now.state.calls) c.loop-number.invariant)
