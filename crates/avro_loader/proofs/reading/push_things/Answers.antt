use Rattle.std.proofs.lemmas.Result.{err_from_is_err_and}
use Rattle.avro_loader.specs.declared.fault.LoadError.TheVariants.{Fault}
use Rattle.avro_loader.specs.Reading.{things_at}
use Rattle.avro_loader.proofs.Loop.{thing_fails, thing_read, things_read}
use Rattle.avro_loader.proofs.reading.push_things.Goals as goal

pub returns-in_err-thing : goal.returns-in_err-thing
returns-in_err-thing g c =
    let p = err_from_is_err_and c.from_residual.result c.from_residual.ensures.1 in
    rw (p.1, p.2) (thing_fails (g.T.Thing.thing_at c.args.format) c.args.count c.loop.counter c.loop.rest.now c.loop.things.items (things_at (g.T.Thing.thing_at c.args.format) c.args.count c.args.bytes.now) c.loop.invariant (Fault c.in_err-thing.field-0.0) c.loop-test.true c.in_err-thing.ensures)

pub loop-preserved : goal.loop-preserved
loop-preserved g c =
    rw c.in_ok-push.ensures.items (thing_read (g.T.Thing.thing_at c.args.format) c.args.count c.loop.counter c.loop.rest.now c.loop.things.items (things_at (g.T.Thing.thing_at c.args.format) c.args.count c.args.bytes.now) c.loop.invariant c.in_ok-thing.thing c.in_ok-thing.after.now c.loop-test.true c.in_ok-thing.ensures)

pub returns : goal.returns
returns g c = things_read (g.T.Thing.thing_at c.args.format) c.args.count c.loop.counter c.loop.rest.now c.loop.things.items (things_at (g.T.Thing.thing_at c.args.format) c.args.count c.args.bytes.now) c.loop.invariant c.loop-test.false
