use Rattle.std.proofs.Common.{false, sym, subst}
use Rattle.machine.specs.Run.{IsKept, run_of}
use Rattle.machine.proofs.Alone.{kept_at_start}
use Rattle.machine.proofs.run.Run.new.Goals as goal

pub invariant_of-result : goal.invariant_of-result
invariant_of-result c =
    subst (λ m. IsKept (run_of c.args.program.now c.new.result.items false m)) (sym c.new-2.ensures)
    (kept_at_start c.args.program.now c.new.result.items false (c.machines_go_on_with_more_input.ensures.under c.args.program.now) (c.machines_go_on_with_more_input.ensures.begins c.new.result.items))
