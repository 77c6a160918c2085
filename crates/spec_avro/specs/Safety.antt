-- When the schemas alone show that every datum of a writer can be read: where no bad pair is reached (Avro 1.11,
-- "Schema Resolution").
use Rattle.std.specs.Prelude.{◌≡◌, ℕ, Bool, true, false, List, Option, Some, None, Ok, Err, slice_get}
use Rattle.spec_avro.specs.Node.{Node, FieldNode, EnumNode, UnionNode}
use Rattle.spec_avro.specs.WellFormed.{IsWellFormed, is_union}
use Rattle.spec_avro.specs.Datum.{Datum}
use Rattle.spec_avro.specs.Conforming.{Conforms}
use Rattle.spec_avro.specs.declared.mismatch.MismatchKind.TheVariants.{BytesNotText}
use Rattle.spec_avro.specs.declared.place.Destination.TheVariants.{Straight, IntoMember, Nowhere, Unmatched}
use Rattle.spec_avro.specs.Matching.{both_items, both_values, place}
use Rattle.spec_avro.specs.Partners.{routes}
use Rattle.spec_avro.specs.declared.place.Partner.{Partner}
use Rattle.spec_avro.specs.declared.place.Route.{Route}
use Rattle.spec_avro.specs.Resolution.{Resolved, field_lists, lacking, resolved, symbol_at, symbol_for}

-- a writer's node and a reader's
abbrev pub Pair : Type 0
Pair = ℕ × ℕ

abbrev pub is_enum : Option Node → Bool
is_enum (Some (EnumNode names symbols default)) = true
is_enum _ = false

-- ---- rules

module _ (W R : List Node) where
  -- a datum of the writer's node w, which is no union, goes straight into the reader's node r
  pub record GoesStraight (w r : ℕ) : Type 0 where
    pub no_union : is_union (slice_get W w) ≡ false
    pub straight : place W R w r ≡ Straight

  -- the pairs that a pair leads to
  pub data LeadsTo : Pair → Pair → Type 0 where
    -- each branch of a writer's union goes where the union goes
    to_member : {w r member : ℕ} (i : ℕ) (members : List ℕ) → slice_get W w ≡ Some (UnionNode members)
        → slice_get members i ≡ Some member → LeadsTo (w, r) (member, r)
    -- another datum goes into the first branch of a reader's union that matches
    to_branch : {w r node : ℕ} (position : ℕ) → is_union (slice_get W w) ≡ false
        → place W R w r ≡ IntoMember position node → LeadsTo (w, r) (w, node)
    -- an item into an item
    to_items : {w r : ℕ} {q : Pair} → GoesStraight w r → both_items (slice_get W w) (slice_get R r) ≡ Some q
        → LeadsTo (w, r) q
    -- a value into a value
    to_values : {w r : ℕ} {q : Pair} → GoesStraight w r → both_values (slice_get W w) (slice_get R r) ≡ Some q
        → LeadsTo (w, r) q
    -- a field into its partner
    to_field : {w r : ℕ} (i : ℕ) (ws rs : List FieldNode) (route : Route) (p : Partner) → GoesStraight w r
        → field_lists (slice_get W w) (slice_get R r) ≡ Some (ws, rs) → slice_get (routes ws rs) i ≡ Some route
        → route.partner ≡ Some p → LeadsTo (w, r) (route.node, p.node)

  -- the pairs that mismatch whatever the datum, or for some symbol
  pub data IsBad : Pair → Type 0 where
    -- the nodes do not match
    no_match : {w r : ℕ} → is_union (slice_get W w) ≡ false → place W R w r ≡ Unmatched → IsBad (w, r)
    -- no branch of the reader's union matches
    no_branch : {w r : ℕ} → is_union (slice_get W w) ≡ false → place W R w r ≡ Nowhere → IsBad (w, r)
    -- a reader's field has neither a partner nor a default
    no_default : {w r : ℕ} (ws rs : List FieldNode) (g : FieldNode) → GoesStraight w r
        → field_lists (slice_get W w) (slice_get R r) ≡ Some (ws, rs) → lacking ws rs ≡ Some g → IsBad (w, r)
    -- a writer's symbol is not among the reader's, which has no default
    no_symbol : {w r : ℕ} (i : ℕ) (symbol : List ℕ) → GoesStraight w r → symbol_at (slice_get W w) i ≡ Some symbol
        → is_enum (slice_get R r) ≡ true → symbol_for (slice_get R r) symbol ≡ None → IsBad (w, r)

-- the pairs that the roots lead to
pub data Reached (W R : List Node) : Pair → Type 0 where
  root : Reached W R (0, 0)
  step : (p q : Pair) → Reached W R p → LeadsTo W R p q → Reached W R q

-- no bad pair is reached
abbrev pub IsSafe : List Node → List Node → Type 0
IsSafe W R = (p : Pair) → Reached W R p → IsBad W R p → ⊥

-- a value, or bytes that are no UTF-8 where the reader wants a string
abbrev pub IsReadable : {A : Type 0} → Resolved A → Type 0
IsReadable (Ok a) = Unit {0}
IsReadable (Err m) = m.kind ≡ BytesNotText

-- each datum of a writer that a reader is safe with is read
abbrev pub SafeDataAreReadable : Type 0
SafeDataAreReadable = (W R : List Node) (d : Datum) → IsWellFormed R → IsSafe W R → Conforms W 0 d
    → IsReadable (resolved W R 0 0 d)
