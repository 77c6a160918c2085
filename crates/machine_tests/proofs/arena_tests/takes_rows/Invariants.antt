use Rattle.machine.specs.Running.{IsOn, IsUnder}
use Rattle.machine_tests.proofs.arena_tests.takes_rows.Given as goal

abbrev pub invariant-rows : goal.invariant-rows
invariant-rows l = record {
  under : IsUnder l.program l.machine;
  on : IsOn l.input l.machine;
}
