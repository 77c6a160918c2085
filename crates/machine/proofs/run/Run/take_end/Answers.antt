use Rattle.std.proofs.Common.{false, sym, subst}
use Rattle.machine.specs.Run.{IsKept, run_of}
use Rattle.machine.proofs.Alone.{kept_at_start}
use Rattle.machine.proofs.run.Run.take_end.Goals as goal

pub invariant_of-self : goal.invariant_of-self
invariant_of-self c =
    let P = c.self.inside.program.now in
    let input = c.clear.new.self.items in
    subst (λ m. IsKept (run_of P input false m)) (sym c.end_and_reset-end.ensures.begun)
    (kept_at_start P input false (c.machines_go_on_with_more_input.ensures.under P) (c.machines_go_on_with_more_input.ensures.begins input))
