-- The run is on the pieces so far, and has taken no more rows than it may.
use Rattle.std.proofs.Common.{◌≡◌, ◌≤◌, false, take}
use Rattle.std.specs.List.{concat}
use Rattle.commands.proofs.running.run_on.Given as goal

abbrev pub invariant-loop-number : goal.invariant-loop-number
invariant-loop-number l = record {
  program : l.run.program ≡ l.program;
  input : l.run.input ≡ concat (take l.number l.pieces);
  unclosed : l.run.ended ≡ false;
  most : l.run.machine.state.count ≤ l.steps;
}
