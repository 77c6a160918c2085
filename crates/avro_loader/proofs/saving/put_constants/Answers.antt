use Rattle.std.proofs.Common.{◌∙◌, append_assoc, length}
use Rattle.spec_machine.specs.ImageSpelling.{long}
use Rattle.spec_machine.specs.Image.{constant}
use Rattle.avro_loader.proofs.Saved.{one_more}
use Rattle.avro_loader.proofs.saving.put_constants.Goals as goal

pub loop-number-preserved : goal.loop-number-preserved
loop-number-preserved c =
    let more = one_more constant c.args.out.now.items (long (length c.args.constants.now)) c.loop-number.out.items c.loop-number.number c.args.constants.now c.list-constant.result.now c.list-constant.ensures c.loop-number.invariant in
    rw (c.in_ok-extend_from_slice.ensures.items, c.in_ok-put_long-2.ensures.put)
    (append_assoc c.loop-number.out.items (long (length c.list-constant.result.now)) c.list-constant.result.now ∙ more)
