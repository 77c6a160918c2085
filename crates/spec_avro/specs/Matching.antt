-- Which nodes match (Avro 1.11, "Schema Resolution": "To match, one of the following must hold").
use Rattle.std.specs.Prelude.{◌≡◌, ℕ, zero, suc, ◌==◌, Bool, true, false, ◌&&◌, ◌||◌, List, [], ◌∷◌, length, Option, Some, None, if◌then◌else◌, slice_get}
use Rattle.std.specs.Str.{bytes_eq}
use Rattle.spec_avro.specs.FullNames.{unqualified}
use Rattle.spec_avro.specs.Symbols.{is_used}
use Rattle.spec_avro.specs.Node.{Node, Names, NullNode, BooleanNode, IntNode, LongNode, BytesNode, TextNode, FixedNode, EnumNode, ArrayNode, MapNode, UnionNode, RecordNode}
use Rattle.spec_avro.specs.WellFormed.{IsWellFormed, is_union}
use Rattle.spec_avro.specs.Options.{given}
use Rattle.spec_avro.specs.declared.place.Destination.{Destination}
use Rattle.spec_avro.specs.declared.place.Destination.TheVariants.{Straight, IntoMember, Nowhere, Unmatched}

-- "the (unqualified) names match". This project's own rule: they match too where the writer's full name is one of the
-- reader's aliases.
abbrev pub have_matching_names : Names → Names → Bool
have_matching_names w r = bytes_eq (unqualified w.full) (unqualified r.full) || is_used w.full r.aliases

-- "both schemas have same primitive type", "the writer's schema may be promoted to the reader's"
abbrev pub primitives_match : Node → Node → Bool
primitives_match NullNode NullNode = true
primitives_match BooleanNode BooleanNode = true
primitives_match IntNode IntNode = true
primitives_match IntNode LongNode = true
primitives_match LongNode LongNode = true
primitives_match BytesNode BytesNode = true
primitives_match BytesNode TextNode = true
primitives_match TextNode TextNode = true
primitives_match TextNode BytesNode = true
primitives_match _ _ = false

-- "both schemas are enums whose (unqualified) names match", fixed "whose sizes and (unqualified) names match",
-- "records with the same (unqualified) name"
abbrev pub names_match : Node → Node → Bool
names_match (EnumNode names symbols default) (EnumNode others theirs fallback) = have_matching_names names others
names_match (FixedNode names size) (FixedNode others most) = have_matching_names names others && size == most
names_match (RecordNode names fields) (RecordNode others theirs) = have_matching_names names others
names_match _ _ = false

-- the items of two arrays
abbrev pub both_items : Option Node → Option Node → Option (ℕ × ℕ)
both_items (Some (ArrayNode i)) (Some (ArrayNode j)) = Some (i, j)
both_items _ _ = None

-- the values of two maps
abbrev pub both_values : Option Node → Option Node → Option (ℕ × ℕ)
both_values (Some (MapNode i)) (Some (MapNode j)) = Some (i, j)
both_values _ _ = None

-- "either schema is a union", or they match by themselves
abbrev pub kinds_match : Node → Node → Bool
kinds_match w r = is_union (Some w) || is_union (Some r) || primitives_match w r || names_match w r

-- or both are "arrays whose item types match" or "maps whose value types match"
abbrev pub rule : (ℕ → ℕ → Bool) → Node → Node → Bool
rule match w r =
    kinds_match w r
    || given (both_items (Some w) (Some r)) false (λ p. match p.0 p.1)
    || given (both_values (Some w) (Some r)) false (λ p. match p.0 p.1)

abbrev pub both_match : (ℕ → ℕ → Bool) → Option Node → Option Node → Bool
both_match match (Some w) (Some r) = rule match w r
both_match match _ _ = false

-- the rule, applied so often
unfoldable pub matches_within : List Node → List Node → ℕ → ℕ → ℕ → Bool
matches_within W R zero w r = false
matches_within W R (suc n) w r = both_match (matches_within W R n) (slice_get W w) (slice_get R r)

-- the writer's node w and the reader's node r match
abbrev pub matches : List Node → List Node → ℕ → ℕ → Bool
matches W R w r = matches_within W R (suc (length W)) w r

-- "The first schema in the reader's union that matches"
abbrev pub first_member : (ℕ → Bool) → ℕ → List ℕ → Destination
first_member match i [] = Nowhere
first_member match i (m ∷ ms) = if match m then IntoMember i m else first_member match (suc i) ms

abbrev pub place_at : (ℕ → Bool) → Option Node → ℕ → Destination
place_at match (Some (UnionNode members)) r = first_member match 0 members
place_at match _ r = if match r then Straight else Unmatched

-- where a value of the writer's node w goes with the reader's node r
abbrev pub place : List Node → List Node → ℕ → ℕ → Destination
place W R w r = place_at (matches W R w) (slice_get R r) r

-- Matching is one application of the rule to matching of the parts.
abbrev pub MatchesByRule : Type 0
MatchesByRule = (W R : List Node) (w r : ℕ) → IsWellFormed W
    → matches W R w r ≡ both_match (matches W R) (slice_get W w) (slice_get R r)
