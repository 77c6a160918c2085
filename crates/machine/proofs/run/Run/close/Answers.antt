use Rattle.machine.proofs.Alone.{closed_alone}
use Rattle.machine.proofs.run.Run.close.Goals as goal

pub invariant_of-self : goal.invariant_of-self
invariant_of-self c = record {
  alone = closed_alone c.self.inside.program.now c.self.inside.input.items c.self.inside.ended c.self.inside.machine.state.count c.self.inside.machine.state c.runs_alone_are_counted_and_stay.ensures.stay c.self.invariant.alone;
  under = c.self.invariant.under;
  on = c.self.invariant.on;
}
