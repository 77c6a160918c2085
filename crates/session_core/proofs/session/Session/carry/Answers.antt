use Rattle.std.proofs.Common.{◌≡◌, Some, slice_get, subst}
use Rattle.spec_machine.specs.State.{State}
use Rattle.machine.specs.Run.{IsCarry}
use Rattle.spec_sessions.specs.Session.{Session, state_of}
use Rattle.session_core.proofs.session.Session.carry.Goals as goal

pub returns : goal.returns
returns c =
    subst
    (λ (s : Session). (state : State) × (state_of s ≡ Some state) × IsCarry (slice_get s.program.code state.pc) s.bytes state.pos state.content c.carry.result.now)
    c.self.view_is
    (c.self.inside.run.machine.state, c.is_alone.ensures, c.carry.ensures)
