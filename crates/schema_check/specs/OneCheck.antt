-- Each pair of schemas has reached pairs with their parents, and bad ones, and just one list of each; and each place
-- has a way by the parents, and just one.
use Rattle.std.specs.Prelude.{◌≡◌, ◌<◌, ℕ, List, length}
use Rattle.spec_avro.specs.Node.{Node}
use Rattle.spec_avro.specs.WellFormed.{IsWellFormed}
use Rattle.spec_avro.specs.Safety.{Pair}
use Rattle.schema_check.specs.BadPairs.{AreFound}
use Rattle.schema_check.specs.Ways.{AreParents, IsByParents}
use Rattle.schema_check.specs.declared.checking.BadPair.{BadPair}

abbrev pub SomeAreFound : Type 0
SomeAreFound = (W R : List Node) → IsWellFormed W → IsWellFormed R
    → (pairs : List Pair) × (parents : List ℕ) × (bad : List BadPair) × AreFound W R pairs parents bad

abbrev pub OneIsFound : Type 0
OneIsFound = (W R : List Node) (pairs others : List Pair) (parents theirs : List ℕ) (bad further : List BadPair)
    → AreFound W R pairs parents bad → AreFound W R others theirs further
    → (pairs ≡ others) × (parents ≡ theirs) × (bad ≡ further)

abbrev pub SomeWayIsByParents : Type 0
SomeWayIsByParents = (W R : List Node) (pairs : List Pair) (parents : List ℕ) → AreParents W R pairs parents
    → (place : ℕ) → place < length pairs → (way : List Pair) × IsByParents pairs parents place way

abbrev pub OneWayIsByParents : Type 0
OneWayIsByParents = (pairs : List Pair) (parents : List ℕ) (place : ℕ) (way other : List Pair)
    → IsByParents pairs parents place way → IsByParents pairs parents place other → way ≡ other
