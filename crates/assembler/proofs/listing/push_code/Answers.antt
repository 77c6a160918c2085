use Rattle.std.proofs.Common.{get_or}
use Rattle.std.proofs.lemmas.Option.{slice_get-get_or}
use Rattle.std.specs.Prelude.{string_bytes}
use Rattle.spec_machine.specs.declared.instr.Instr.TheVariants.{Bool}
use Rattle.spec_machine.specs.Listing.{instr_line}
use Rattle.assembler.proofs.Lines.{one_more}
use Rattle.assembler.proofs.listing.push_code.Goals as goal

pub loop-address-preserved : goal.loop-address-preserved
loop-address-preserved c =
    rw c.in_ok-push_instr.ensures
    (one_more instr_line (string_bytes c.args.output.now) (string_bytes c.loop-address.output) c.loop-address.address c.args.code.now
    (get_or c.args.code.now c.loop-address.address Bool) (slice_get-get_or c.args.code.now c.loop-address.address Bool c.loop-address-test.true) c.loop-address.invariant)
