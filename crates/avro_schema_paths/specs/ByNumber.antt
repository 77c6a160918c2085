-- Paths by the numbers of their nodes.
use Rattle.std.specs.Prelude.{◌≡◌, ◌<◌, ℕ, List, Some, Vec, length, slice_get}
use Rattle.std.specs.declared.alloc.Global.{Global}
use Rattle.avro_schema_paths.specs.Adds.{IsAmong, IsNodeAmong}
use Rattle.avro_schema_paths.specs.declared.step.Step.{Step}
use Rattle.avro_schema_paths.specs.declared.entries.NodePath.{NodePath}

-- the path at a position is that of one of the entries of the node of that number
pub record IsFilled (es : List NodePath) (k : ℕ) (paths : List (Vec Step Global)) : Type 0 where
  pub path : Vec Step Global
  pub at : slice_get paths k ≡ Some path
  pub among : IsAmong es k path.items

-- and so it is for each number that is counted and is the node of an entry
pub record AreByNumber (es : List NodePath) (count : ℕ) (paths : List (Vec Step Global)) : Type 0 where
  pub each : length paths ≡ count
  pub filled : (k : ℕ) → k < count → IsNodeAmong es k → IsFilled es k paths
