-- The branches of a reader's union, found by their nodes. This project's own.
use Rattle.std.specs.Prelude.{◌≡◌, ℕ, ◌==◌, List, Option, Some, None, min}
use Rattle.std.specs.BTreeMap.{BTreeMap, get}
use Rattle.std.specs.List.{position_from}
use Rattle.std.specs.Ordering.{nat_cmp}

-- Under each branch's node is the position where it comes first, and no other node has one.
abbrev pub ArePositionsOf : List ℕ → BTreeMap ℕ ℕ → Type 0
ArePositionsOf members positions = (node : ℕ)
    → get nat_cmp positions node ≡ position_from (λ member. member == node) 0 members

-- the lesser of two positions, or the one that there is
abbrev pub least : Option ℕ → Option ℕ → Option ℕ
least (Some n) (Some m) = Some (min n m)
least (Some n) None = Some n
least None other = other
