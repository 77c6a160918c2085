use Rattle.std.proofs.Common.{rules, ◌∙◌, sym, subst}
use Rattle.session_pool.specs.JobSeats.{AreAlone}
use Rattle.session_pool.proofs.Making.{one_more}
use Rattle.session_pool.proofs.turning.seats_alone.Goals as goal

pub loop-number-preserved : goal.loop-number-preserved
loop-number-preserved c = (
  search rules,
  subst AreAlone (sym c.in_ok-push.ensures.items) (one_more _ _ _ (sym c.loop-number.seats.ok.0 ∙ c.loop-number.invariant.0) c.loop-number.invariant.1 c.in_ok-alone.ensures),
)
