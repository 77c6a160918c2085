use Rattle.std.proofs.Common.{◌≡◌, ◌++◌, reverse, take}
use Rattle.std.specs.List.{flat_map}
use Rattle.std.specs.Prelude.{string_bytes}
use Rattle.spec_lines.specs.Show.{call_line}
use Rattle.debugger.proofs.frames.push_calls.Given as goal

abbrev pub invariant-loop-number : goal.invariant-loop-number
invariant-loop-number l =
    string_bytes l.output ≡ string_bytes l.fn.output ++ flat_map call_line (take l.number (reverse l.machine.state.calls))
