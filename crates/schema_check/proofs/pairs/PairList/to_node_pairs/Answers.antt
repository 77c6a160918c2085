-- The pairs are of nodes of the schemas.
use Rattle.schema_check.proofs.Named.{below_all}
use Rattle.schema_check.proofs.pairs.PairList.to_node_pairs.Goals as goal

pub returns-clause-below : goal.returns-clause-below
returns-clause-below c = rw (← c.self.view_is) (rw (c.in_ok-named.ensures, c.deref.ensures.value) (below_all c.self.inside.writers c.self.inside.readers c.self.inside.pairs.items c.self.invariant.within))
