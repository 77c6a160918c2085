use Rattle.machine.proofs.Alone.{kept_by_slices}
use Rattle.machine.proofs.run.Run.slice.Goals as goal

pub invariant_of-self : goal.invariant_of-self
invariant_of-self c =
    kept_by_slices c.self.inside.program.now c.self.inside.input.items c.deref.result.now c.self.inside.ended c.args.breaks.now c.slice.result.rows c.self.inside.machine c.slice.new.self c.deref.ensures.value c.runs_alone_are_counted_and_stay.ensures.go_on c.self.invariant.alone c.slice.ensures.rows c.slice.ensures.count c.slice.ensures.under c.slice.ensures.on
