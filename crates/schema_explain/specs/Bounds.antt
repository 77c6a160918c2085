-- Which nodes lines have and are still to be explained, how deep and how many they are.
use Rattle.std.specs.Prelude.{◌≡◌, ℕ, ◌+◌, ◌*◌, ◌<◌, ◌≤◌, List, length, IfSome}
use Rattle.std.specs.List.{AllByRecursion}
use Rattle.spec_avro.specs.Node.{Node}
use Rattle.spec_avro.specs.declared.limits.TheConstants.{MOST_SYMBOLS}
use Rattle.schema_explain.specs.Pairs.{Listed}
use Rattle.schema_explain.specs.declared.entries.Entry.{Entry}
use Rattle.schema_explain.specs.declared.entries.Entry.TheVariants.{Ready, Due}
use Rattle.schema_explain.specs.declared.line.Line.{Line}

-- how many parts a pair may have: as many as an enum symbols
abbrev pub MOST_PARTS : ℕ
MOST_PARTS = MOST_SYMBOLS

-- the nodes of a line are nodes of the schemas
pub record HasNodesOf (W R : List Node) (line : Line) : Type 0 where
  pub writer : IfSome line.writer (λ w. w < length W)
  pub reader : IfSome line.reader (λ r. r < length R)

-- nodes of both schemas, and a pair that is due is no deeper than that
abbrev pub IsBelow : List Node → List Node → ℕ → Entry → Type 0
IsBelow W R depth (Ready line) = HasNodesOf W R line
IsBelow W R depth (Due t) = (t.writer < length W) × (t.reader < length R) × (t.depth ≤ depth)

abbrev pub AreBelow : List Node → List Node → ℕ → List Entry → Type 0
AreBelow W R depth entries = AllByRecursion (IsBelow W R depth) entries

-- of both schemas, and no more pairs than they have
pub record IsOfNodes (W R : List Node) (l : Listed) : Type 0 where
  pub writers : l.writers ≡ length W
  pub readers : l.readers ≡ length R
  pub few : length l.pairs ≤ length W * length R

-- no more parts than that for each pair that was added
abbrev pub AreFew : ℕ → ℕ → List Entry → Type 0
AreFew old new entries = length entries + MOST_PARTS * old ≤ MOST_PARTS * new
