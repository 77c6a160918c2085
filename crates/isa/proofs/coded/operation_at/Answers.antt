use Rattle.std.proofs.Common.{◌∙◌, ◌≡◌, ◌+◌, ◌-◌, arith, slice_get, sym}
use Rattle.spec_machine.specs.declared.operation.TheConstants.{OPERATIONS}
use Rattle.isa.proofs.Operations.{at_place}
use Rattle.isa.proofs.coded.operation_at.Goals as goal

pub returns : goal.returns
returns c =
    let e : c.args.code ≡ (c.args.code - 1) + 1 = omega (arith, c.if-code-eq0.false) in
    let got : c.in_table.result ≡ slice_get OPERATIONS (c.args.code - 1) = c.in_table.ensures in
    got ∙ sym (at_place c.args.code (c.args.code - 1) e)
