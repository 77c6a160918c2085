use Rattle.session_pool.proofs.Passes.{has_begun}
use Rattle.session_pool.proofs.pool.SessionPool.open.Goals as goal

pub returns-clause-pass : goal.returns-clause-pass
returns-clause-pass c = has_begun _ _ _ _ _ c.new.ensures c.in-Some.ensures.begun
