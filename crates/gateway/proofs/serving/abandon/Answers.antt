-- Each try is one more that found a worker with the session.
use Rattle.std.proofs.Common.{◌≡◌, ℕ, ◌∙◌, sym, inr, subst, arith, rules}
use Rattle.gateway_core.specs.Gates.{Asked, never, once_more}
use Rattle.session_pool_slots.specs.Words.{with_worker}
use Rattle.session_pool.specs.Seats.{Finds, IsPassOf, KeepsOthers}
use Rattle.spec_sessions.specs.Pass.{Pass}
use Rattle.gateway.specs.declared.serving.TheConstants.{MOST_ABANDONS}
use Rattle.gateway.specs.Stopping.{FindsBusy, no_call, one_more}
use Rattle.gateway.proofs.Leaving.{others_on}
use Rattle.gateway.proofs.serving.abandon.Goals as goal

pub loop-try-init : goal.loop-try-init
loop-try-init g c =
    let asked : Asked g.G.Gate.says c.args.gate.now c.args.gate.now = never in
    let busy : FindsBusy c.args.pass 0 c.args.seat.now c.args.seat.now = no_call in
    search rules

pub loop-try-preserved : goal.loop-try-preserved
loop-try-preserved g c =
    let before = c.loop-try.invariant in
    let after = c.in-Err.ensures in
    let Rest : Pass → Type 0 = λ pass. IsPassOf c.abandon.new.seat pass in
    let Kept : Pass → Type 0 = λ pass. KeepsOthers c.loop-try.seat pass c.abandon.new.seat in
    let Found : Pass → Type 0 = λ pass. Finds c.loop-try.seat pass with_worker c.abandon.new.seat in
    record {
      rests = after.seat;
      pass = subst Rest (sym after.back) after.still;
      held = after.back ∙ before.held;
      others = others_on c.args.seat.now c.loop-try.seat c.abandon.new.seat c.args.pass before.others (subst Kept before.held after.others);
      asked = once_more _ before.asked c.at.ensures;
      busy = one_more before.busy (subst Found before.held after.busy);
    }

pub returns-clause-over : goal.returns-clause-over
returns-clause-over g c =
    let P : ℕ → Type 0 = λ n. FindsBusy c.args.pass n c.args.seat.now c.loop-try.seat in
    let all : c.loop-try._try ≡ MOST_ABANDONS = omega arith in
    inr (_, subst P all c.loop-try.invariant.busy)
