-- What holds of the nodes that a value declares, by the heads of all nodes.
use Rattle.std.proofs.Common.{◌≡◌, ℕ, suc, ◌+◌, ◌<◌, ◌≤◌, ◌⊎◌, List, [], ◌∷◌, ◌++◌, length, map, Bool, true, false, Option, Some, subst, arith, slice_get, IfSome}
use Rattle.std.specs.List.{AllByRecursion, IsDistinct}
use Rattle.std.specs.Str.{bytes_eq}
use Rattle.spec_avro.specs.declared.limits.TheConstants.{MOST_FIELDS, MOST_FIXED, MOST_NODES, MOST_SYMBOLS}
use Rattle.spec_schema.specs.Draft.{Draft, Whole, RecordDraft}
use Rattle.spec_schema.specs.Head.{Head, UnionHead, Named, head_at, is_same_type}
use Rattle.spec_avro.specs.Node.{FixedNode, EnumNode, ArrayNode, MapNode, UnionNode, RecordNode}

abbrev pub is_union_there : Option Head → Bool
is_union_there (Some UnionHead) = true
is_union_there _ = false

abbrev pub is_named_there : Option Head → Bool
is_named_there (Some (Named full)) = true
is_named_there _ = false

-- the node of a value: one from that place on, or that of a name
pub record Gives (start : ℕ) (all : List Head) (n : ℕ) : Type 0 where
  pub below : n < length all
  pub new : (start ≤ n) ⊎ (is_named_there (slice_get all n) ≡ true)

-- a part of the node own: a later one, or that of a name
abbrev pub PartFits : List Head → ℕ → ℕ → Type 0
PartFits all own n = (own < n) ⊎ (is_named_there (slice_get all n) ≡ true)

pub record ItemFits (all : List Head) (own n : ℕ) : Type 0 where
  pub below : n < length all
  pub part : PartFits all own n

pub record MemberFits (all : List Head) (own n : ℕ) : Type 0 where
  pub below : n < length all
  pub no_union : is_union_there (slice_get all n) ≡ false
  pub part : PartFits all own n

abbrev pub DraftFits : List Head → ℕ → Draft → Type 0
DraftFits all own (Whole (FixedNode names size)) = size ≤ MOST_FIXED
DraftFits all own (Whole (EnumNode names symbols default)) = IsDistinct bytes_eq symbols × (length symbols ≤ MOST_SYMBOLS) × IfSome default (λ n. n < length symbols)
DraftFits all own (Whole (ArrayNode n)) = ItemFits all own n
DraftFits all own (Whole (MapNode n)) = ItemFits all own n
DraftFits all own (Whole (UnionNode ms)) = AllByRecursion (MemberFits all own) ms × (length ms ≤ MOST_NODES) × IsDistinct is_same_type (map (head_at all) ms)
DraftFits all own (Whole (RecordNode names fs)) = ⊥
DraftFits all own (Whole leaf) = Unit {0}
DraftFits all own (RecordDraft names fs) = AllByRecursion (λ f. f.node < length all) fs × IsDistinct bytes_eq (map (λ f. f.name) fs) × (length fs ≤ MOST_FIELDS)

-- so with each, from a place on
abbrev pub AllFrom : (ℕ → Draft → Type 0) → ℕ → List Draft → Type 0
AllFrom P i [] = Unit {0}
AllFrom P i (d ∷ ds) = P i d × AllFrom P (suc i) ds

pub all-behind : (P : ℕ → Draft → Type 0) (i : ℕ) (ds es : List Draft) → AllFrom P i ds → AllFrom P (i + length ds) es → AllFrom P i (ds ++ es)
all-behind P i [] es h k = subst (λ n. AllFrom P n es) (let e : i + 0 ≡ i = omega arith in e) k
all-behind P i (d ∷ ds) es h k = (h.0, all-behind P (suc i) ds es h.1 (subst (λ n. AllFrom P n es) (let e : i + suc (length ds) ≡ suc i + length ds = omega arith in e) k))
