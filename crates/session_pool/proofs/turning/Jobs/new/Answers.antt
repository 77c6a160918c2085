use Rattle.std.proofs.Common.{rules, refl, ◌∙◌, sym, arith}
use Rattle.std.proofs.lemmas.Option.{slice_get_read}
use Rattle.session_pool.proofs.Making.{one_got, all_new}
use Rattle.session_pool.proofs.turning.Jobs.new.Goals as goal

pub loop-number-preserved : goal.loop-number-preserved
loop-number-preserved c = (
  c.loop-number.invariant.0,
  c.loop-number.invariant.1,
  one_got _ _ _ c.index_mut.result.now _ c.loop-number.invariant.2 (slice_get_read _ c.loop-number.seats.len _ _ c.loop-number.seats.ok.0 (omega (arith, c.loop-number-test.true, c.loop-number.invariant.0)) c.index_mut.ensures.value) refl refl refl (search rules) (search rules),
)

pub returns-clause-new : goal.returns-clause-new
returns-clause-new c = all_new _ c.loop-number.number _ _ c.loop-number-test.false c.loop-number.invariant.1 (sym c.loop-number.seats.ok.0 ∙ c.loop-number.invariant.0) c.loop-number.invariant.2
