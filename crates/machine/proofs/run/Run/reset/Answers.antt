use Rattle.std.proofs.Common.{false, sym, subst}
use Rattle.machine.specs.Run.{IsKept, run_of}
use Rattle.machine.proofs.Alone.{kept_at_start}
use Rattle.machine.proofs.run.Run.reset.Goals as goal

pub invariant_of-self : goal.invariant_of-self
invariant_of-self c =
    subst (λ m. IsKept (run_of c.args.program.now c.clear.new.self.items false m)) (sym c.reset.ensures)
    (kept_at_start c.args.program.now c.clear.new.self.items false (c.machines_go_on_with_more_input.ensures.under c.args.program.now) (c.machines_go_on_with_more_input.ensures.begins c.clear.new.self.items))
