use Rattle.std.proofs.Common.{length}
use Rattle.spec_machine.specs.ImageSpelling.{long}
use Rattle.spec_machine.specs.Image.{section}
use Rattle.avro_loader.proofs.Saved.{one_more}
use Rattle.avro_loader.proofs.saving.put_tables.Goals as goal

pub loop-number-preserved : goal.loop-number-preserved
loop-number-preserved g c =
    rw c.in_ok-put_section.ensures
    (one_more (section g.T.Thing.spelled) c.args.out.now.items (long (length c.args.tables.now)) c.loop-number.out.items c.loop-number.number c.args.tables.now c.list.result.now c.list.ensures c.loop-number.invariant)
