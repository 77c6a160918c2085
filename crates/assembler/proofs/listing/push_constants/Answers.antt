use Rattle.std.specs.Prelude.{string_bytes}
use Rattle.spec_machine.specs.Listing.{constant_line}
use Rattle.assembler.proofs.Lines.{one_more}
use Rattle.assembler.proofs.listing.push_constants.Goals as goal

pub loop-number-preserved : goal.loop-number-preserved
loop-number-preserved c =
    rw c.in_ok-push_constant.ensures
    (one_more constant_line (string_bytes c.args.output.now) (string_bytes c.loop-number.output) c.loop-number.number c.args.constants.now c.list.result.now c.list.ensures c.loop-number.invariant)
