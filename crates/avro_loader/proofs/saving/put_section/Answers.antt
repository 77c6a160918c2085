use Rattle.std.proofs.Common.{length, ap, sym, ◌∙◌, Some}
use Rattle.std.proofs.lemmas.Option.{slice_get-get_or}
use Rattle.spec_machine.specs.ImageSpelling.{long}
use Rattle.avro_loader.proofs.Saved.{one_more}
use Rattle.avro_loader.proofs.saving.put_section.Goals as goal

pub loop-thing-preserved : goal.loop-thing-preserved
loop-thing-preserved g c =
    let at = slice_get-get_or c.args.things.now c.loop-thing.thing-index c.thing-item.result c.loop-thing-test.true ∙ ap Some (sym c.thing-item.is) in
    rw c.in_ok-put.ensures
    (one_more g.T.Thing.spelled c.args.out.now.items (long (length c.args.things.now)) c.loop-thing.out.items c.loop-thing.thing-index c.args.things.now c.thing-item.result at c.loop-thing.invariant)
