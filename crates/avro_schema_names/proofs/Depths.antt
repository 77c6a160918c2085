-- How deep is what is found in a value.
use Rattle.std.proofs.Common.{◌≡◌, ℕ, zero, suc, max, ◌<◌, ◌≤◌, List, [], ◌∷◌, length, get_or, Option, Some, None, arith}
use Rattle.std.specs.Ordering.{nat_cmp, match_ordering}
use Rattle.std.specs.Cmp.Lexicographic.{slice_cmp}
use Rattle.std.specs.declared.cmp.Ordering.{Ordering}
use Rattle.std.specs.declared.cmp.Ordering.TheVariants.{Less, Equal, Greater}
use Rattle.serde_json.specs.Data.{Data, null, boolean, number, string, array, object, Members, no_members, member, depth, items_depth, members_depth}
use Rattle.serde_json.specs.Find.{get, get_member}
use Rattle.serde_json.specs.View.{view, items_view}
use Rattle.serde_json.specs.declared.value.Value.{Value}

-- one more than the depth of what is there
abbrev pub option_depth : Option Data → ℕ
option_depth None = 0
option_depth (Some d) = suc (depth d)

at_depth : (o : Ordering) (d : Data) (r : Option Data) (n : ℕ) → option_depth r ≤ suc n → option_depth (match_ordering o r (Some d) r) ≤ suc (max (depth d) n)
at_depth Less d r n le = omega arith
at_depth Equal d r n le = omega arith
at_depth Greater d r n le = omega arith

member-depth : (ms : Members) (k : List ℕ) → option_depth (get_member k ms) ≤ suc (members_depth ms)
member-depth no_members k = omega arith
member-depth (member l d ms) k = at_depth (slice_cmp nat_cmp k l) d (get_member k ms) (members_depth ms) (member-depth ms k)

get-depth : (k : List ℕ) (d : Data) → option_depth (get k d) ≤ depth d
get-depth k null = omega arith
get-depth k (boolean b) = omega arith
get-depth k (number n) = omega arith
get-depth k (string s) = omega arith
get-depth k (array ds) = omega arith
get-depth k (object ms) = member-depth ms k

-- what is found in a value is less deep
pub found-depth : (k : List ℕ) (o : Option Data) (d : Data) → o ≡ get k d → option_depth o ≤ depth d
found-depth k o d e = rw e (get-depth k d)

pub item-depth : (vs : List Value) (i : ℕ) (v : Value) → i < length vs → depth (view (get_or vs i v)) ≤ items_depth (items_view vs)
item-depth [] i v lt = absurd (omega arith)
item-depth (x ∷ vs) zero v lt = omega arith
item-depth (x ∷ vs) (suc i) v lt = omega (arith, item-depth vs i v (omega arith))
