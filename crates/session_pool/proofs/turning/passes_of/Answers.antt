use Rattle.session_pool.proofs.Balance.{admits}
use Rattle.session_pool.proofs.turning.passes_of.Goals as goal

pub pass-requires : goal.pass-requires
pass-requires c = admits
