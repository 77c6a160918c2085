use Rattle.std.proofs.lemmas.Result.{err_from_is_err_and}
use Rattle.spec_machine.specs.declared.limits.TheConstants.{MOST_CONSTANT_BYTES}
use Rattle.avro_loader.specs.declared.fault.LoadError.TheVariants.{Fault}
use Rattle.avro_loader.specs.Reading.{constants_at}
use Rattle.avro_loader.proofs.Loop.{constant_fails, constant_read, constants_read}
use Rattle.avro_loader.proofs.reading.push_constants.Goals as goal

pub returns-in_err-constant : goal.returns-in_err-constant
returns-in_err-constant c =
    let p = err_from_is_err_and c.from_residual.result c.from_residual.ensures.1 in
    rw (p.1, p.2) (constant_fails c.args.format c.loop.room c.args.count c.loop.counter c.loop.rest.now c.loop.constants (constants_at c.args.format MOST_CONSTANT_BYTES c.args.count c.args.bytes.now) c.loop.invariant (Fault c.in_err-constant.field-0.0) c.loop-test.true c.in_err-constant.ensures)

pub loop-preserved : goal.loop-preserved
loop-preserved c =
    rw (c.in_ok-push.ensures.pushed, c.saturating_sub-room.ensures) (constant_read c.args.format c.loop.room c.args.count c.loop.counter c.loop.rest.now c.loop.constants (constants_at c.args.format MOST_CONSTANT_BYTES c.args.count c.args.bytes.now) c.loop.invariant c.in_ok-constant.constant.now c.in_ok-constant.after.now c.loop-test.true c.in_ok-constant.ensures)

pub returns : goal.returns
returns c = constants_read c.args.format c.loop.room c.args.count c.loop.counter c.loop.rest.now c.loop.constants (constants_at c.args.format MOST_CONSTANT_BYTES c.args.count c.args.bytes.now) c.loop.invariant c.loop-test.false
