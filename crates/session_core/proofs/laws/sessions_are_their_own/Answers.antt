use Rattle.session_core.proofs.Isolation.{sessions_are_their_own}
use Rattle.session_core.proofs.laws.sessions_are_their_own.Goals as goal

pub returns : goal.returns
returns c = sessions_are_their_own
