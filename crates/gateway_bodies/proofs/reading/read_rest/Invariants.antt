-- What was kept is that of the members so far.
use Rattle.std.proofs.Common.{◌≡◌, ℕ, ◌≤◌, length}
use Rattle.json.specs.Json.{members, value}
use Rattle.serde_json.specs.Data.{Members, no_members, object}
use Rattle.serde_json.specs.Read.{of_members, converted}
use Rattle.gateway_bodies.specs.Members.{AreMembersOf}
use Rattle.gateway_bodies.proofs.reading.read_rest.Given as goal

abbrev pub invariant-members : goal.invariant-members
invariant-members l =
    (n : ℕ) × (all : Members) × (length l.reader ≤ n)
    × (converted (λ ms. of_members ms no_members) (members (value 126) (length l.initial.reader) l.initial.reader) ≡ converted (λ ms. of_members ms all) (members (value 126) n l.reader))
    × AreMembersOf (object all) l.found

abbrev pub decreases-members : goal.decreases-members
decreases-members l = length l.reader
