use Rattle.machine.proofs.Longer.{on-more}
use Rattle.machine_tests.proofs.programs.run.Goals as goal

pub turns-preserved : goal.turns-preserved
turns-preserved c = record {
  within = c.further-end.ensures.within;
  under = c.slice-slice.ensures.under;
  on = on-more c.args.input.now c.turns.end c.further-end.result c.slice-slice.new.self c.further-end.ensures.order c.slice-slice.ensures.on;
}
