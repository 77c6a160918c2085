-- The form of the data of a node, as its callers see it.
use Rattle.std.specs.Prelude.{ℕ, List}
use Rattle.spec_avro.specs.Node.{Node}

-- the nodes, and which of them it is
pub record Form : Type 0 where
  pub nodes : List Node
  pub node : ℕ
