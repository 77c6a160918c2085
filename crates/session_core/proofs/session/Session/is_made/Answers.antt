use Rattle.std.proofs.Common.{◌<◌, ◌^◌, ap, subst, arith}
use Rattle.machine.specs.Running.{Running}
use Rattle.session_core.specs.SessionKept.{IsMade}
use Rattle.session_core.proofs.Made.{made}
use Rattle.session_core.proofs.session.Session.is_made.Goals as goal

pub returns : goal.returns
returns c =
    let run = c.self.inside.run in
    let laws = c.runs_alone_are_counted_and_stay.ensures in
    let counted = ap (λ (m : Running). m.state.count) c.machine.ensures in
    let few : run.machine.state.count < 2 ^ 64 = omega (arith, c.count-counted.type_inv, c.count-counted.ensures, counted) in
    subst IsMade c.self.view_is (made _ run.machine.state c.self.invariant laws.go_on laws.counted few)
