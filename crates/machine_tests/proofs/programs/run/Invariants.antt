use Rattle.std.proofs.Common.{◌≤◌, length, take}
use Rattle.machine.specs.Running.{IsOn, IsUnder}
use Rattle.machine_tests.proofs.programs.run.Given as goal

abbrev pub invariant-turns : goal.invariant-turns
invariant-turns l = record {
  within : l.end ≤ length l.input;
  under : IsUnder l.program l.machine;
  on : IsOn (take l.end l.input) l.machine;
}
