use Rattle.session_pool.proofs.Pairs.{leads}
use Rattle.session_pool.proofs.pool.Pass.new.Goals as goal

pub invariant_of-result : goal.invariant_of-result
invariant_of-result c =
    let law = c.program_ends_with_the_outcome.ensures in
    leads _ _ _ _ _ _ _ _ c.nodes.ensures c.nodes-2.ensures c.of.ensures c.of-2.ensures c.of-3.ensures c.requires law.each_end law.early_end
