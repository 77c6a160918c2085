-- Two schemas whose nodes are matched, and the nodes that a value may go to. This project's own.
use Rattle.std.specs.Prelude.{ℕ, ◌<◌, List, length}
use Rattle.spec_avro.specs.Node.{Node}
use Rattle.spec_avro.specs.declared.place.Destination.{Destination}
use Rattle.spec_avro.specs.declared.place.Destination.TheVariants.{Straight, IntoMember, Nowhere, Unmatched}

-- nodes of both schemas
abbrev pub ArePair : List Node → List Node → ℕ × ℕ → Type 0
ArePair W R p = (p.0 < length W) × (p.1 < length R)

-- the node of a branch is below `len`
abbrev pub IsNodeOf : ℕ → Destination → Type 0
IsNodeOf len (IntoMember position node) = node < len
IsNodeOf len Straight = Unit {0}
IsNodeOf len Nowhere = Unit {0}
IsNodeOf len Unmatched = Unit {0}
