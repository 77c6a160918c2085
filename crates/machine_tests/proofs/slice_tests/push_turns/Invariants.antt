use Rattle.machine.specs.Running.{IsOn, IsUnder}
use Rattle.machine_tests.proofs.slice_tests.push_turns.Given as goal

abbrev pub invariant-each : goal.invariant-each
invariant-each l = record {
  under : IsUnder l.program l.machine;
  on : IsOn l.input l.machine;
}
