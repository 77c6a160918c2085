use Rattle.std.proofs.Common.{slice_get, subst, sym}
use Rattle.machine.specs.Run.{IsCarry, Run}
use Rattle.machine.proofs.Carry.{is_carry}
use Rattle.machine.proofs.run.Run.carry.Goals as goal

pub returns : goal.returns
returns c =
    let machine = c.self.inside.machine in
    let input = c.self.inside.input.items in
    let instr = slice_get c.self.inside.program.now.code machine.state.pc in
    subst (λ (r : Run). IsCarry (slice_get r.program.code r.machine.state.pc) r.input r.machine.state.pos r.machine.state.content c.carry.result.now) c.self.view_is
    (subst (IsCarry instr input machine.state.pos machine.state.content) (sym c.carry.ensures)
    (is_carry instr input machine.state.pos machine.check machine.state.content c.self.invariant.under c.self.invariant.on.content))
