-- Nodes with their paths, which are added one after another.
use Rattle.std.specs.Prelude.{◌≡◌, ◌<◌, ℕ, List, ◌++◌, Some, Vec, length, slice_get}
use Rattle.std.specs.declared.alloc.Global.{Global}
use Rattle.serde_json.specs.Data.{Data}
use Rattle.spec_avro.specs.Node.{Node}
use Rattle.std.specs.List.{AllByRecursion}
use Rattle.avro_schema_paths.specs.Places.{IsPathOf, Path}
use Rattle.avro_schema_paths.specs.declared.step.Step.{Step}
use Rattle.avro_schema_paths.specs.declared.entries.NodePath.{NodePath}

-- one of these is that node with that path
pub record IsAmong (es : List NodePath) (m : ℕ) (q : Path) : Type 0 where
  pub i : ℕ
  pub e : NodePath
  pub at : slice_get es i ≡ Some e
  pub node : e.node ≡ m
  pub path : e.path.items ≡ q

-- these are the nodes and paths that are so, and no others
pub record Lists (P : ℕ → Path → Type 0) (es : List NodePath) : Type 0 where
  pub only : AllByRecursion (λ e. P e.node e.path.items) es
  pub all : (m : ℕ) (q : Path) → P m q → IsAmong es m q

-- they were added after those that were there
pub record Adds (P : ℕ → Path → Type 0) (old new : List NodePath) : Type 0 where
  pub extra : List NodePath
  pub is : new ≡ old ++ extra
  pub lists : Lists P extra

-- the node n, with this path
abbrev pub IsThis : ℕ → Path → ℕ → Path → Type 0
IsThis n path m q = (n ≡ m) × (path ≡ q)

-- one of these is that node
abbrev pub IsNodeAmong : List NodePath → ℕ → Type 0
IsNodeAmong es m = (q : Path) × IsAmong es m q

-- the path at a position is one of the node of that number
pub record IsPathAt (nodes : List Node) (value : Data) (k : ℕ) (paths : List (Vec Step Global)) : Type 0 where
  pub path : Vec Step Global
  pub at : slice_get paths k ≡ Some path
  pub of : IsPathOf nodes value k path.items

-- there is a path for each node that is counted, and it is at the position that is the node's number
pub record ArePaths (nodes : List Node) (value : Data) (count : ℕ) (paths : List (Vec Step Global)) : Type 0 where
  pub each : length paths ≡ count
  pub of : (k : ℕ) → k < count → IsPathAt nodes value k paths
