use Rattle.std.proofs.lemmas.Result.{err_from_is_err_and}
use Rattle.spec_machine.specs.declared.limits.TheConstants.{MOST_ENTRIES}
use Rattle.avro_loader.specs.Reading.{section_at, things_at}
use Rattle.avro_loader.proofs.Loop.{thing_fails, thing_read, things_read}
use Rattle.avro_loader.proofs.reading.push_tables.Goals as goal

pub returns-in_err-after : goal.returns-in_err-after
returns-in_err-after g c =
    let p = err_from_is_err_and c.from_residual.result c.from_residual.ensures.1 in
    rw (p.1, p.2) (thing_fails (section_at c.args.format MOST_ENTRIES (g.T.Thing.thing_at c.args.format)) c.args.count c.loop.counter c.loop.rest.now c.loop.tables (things_at (section_at c.args.format MOST_ENTRIES (g.T.Thing.thing_at c.args.format)) c.args.count c.args.bytes.now) c.loop.invariant c.in_err-after.field-0.0 c.loop-test.true c.in_err-after.ensures)

pub loop-preserved : goal.loop-preserved
loop-preserved g c =
    rw (c.in_ok-push.ensures.pushed, c.deref.ensures.value) (thing_read (section_at c.args.format MOST_ENTRIES (g.T.Thing.thing_at c.args.format)) c.args.count c.loop.counter c.loop.rest.now c.loop.tables (things_at (section_at c.args.format MOST_ENTRIES (g.T.Thing.thing_at c.args.format)) c.args.count c.args.bytes.now) c.loop.invariant c.push_section.new.things.items c.in_ok-after.after.now c.loop-test.true c.in_ok-after.ensures)

pub returns : goal.returns
returns g c = things_read (section_at c.args.format MOST_ENTRIES (g.T.Thing.thing_at c.args.format)) c.args.count c.loop.counter c.loop.rest.now c.loop.tables (things_at (section_at c.args.format MOST_ENTRIES (g.T.Thing.thing_at c.args.format)) c.args.count c.args.bytes.now) c.loop.invariant c.loop-test.false
