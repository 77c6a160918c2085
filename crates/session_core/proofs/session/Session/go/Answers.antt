use Rattle.std.proofs.Common.{ℕ, ◌≡◌, sym, ap, ◌∙◌, subst, arith}
use Rattle.spec_sessions.specs.Rows.{TakesRows, walk_rows}
use Rattle.spec_sessions.specs.Session.{state_of}
use Rattle.session_core.proofs.Sessions.{stopped, went}
use Rattle.session_core.proofs.session.Session.go.Goals as goal

pub returns-then-step-eq0-clause-rows : goal.returns-then-step-eq0-clause-rows
returns-then-step-eq0-clause-rows c =
    stopped c.args.limit c.args.self.now c.step.new.self c.self.inside.run.machine.state c.if-limit-eq0.false c.runs_alone_are_counted_and_stay.ensures.go_on (sym (ap state_of c.self.view_is) ∙ c.is_alone.ensures)
    (subst (λ (n : ℕ). TakesRows (walk_rows 1 c.args.self.now) c.args.self.now n c.step.new.self) c.if-step-eq0.true c.step.ensures.rows)

pub returns-clause-rows : goal.returns-clause-rows
returns-clause-rows c =
    let one : c.step.result ≡ 1 = omega (arith, c.if-step-eq0.false, c.step.ensures.most) in
    went c.args.limit c.step.result c.slice.result.rows c.args.self.now c.step.new.self c.slice.new.self c.self.inside.run.machine.state c.if-limit-eq0.false c.runs_alone_are_counted_and_stay.ensures.go_on (sym (ap state_of c.self.view_is) ∙ c.is_alone.ensures) one
    c.step.ensures.rows c.slice.ensures.rows
