-- Which fields of two records go together (Avro 1.11, "Schema Resolution": "fields are matched by name"; "Aliases").
use Rattle.std.specs.Prelude.{◌≡◌, ℕ, suc, ◌<◌, ◌⊎◌, ◌==◌, Bool, true, false, List, [], ◌∷◌, map, Option, Some, None, is_some, is_none, option_map, if◌then◌else◌, slice_get, slice_index_or, slice_set}
use Rattle.std.specs.List.{list_any}
use Rattle.spec_avro.specs.Node.{FieldNode}
use Rattle.spec_avro.specs.Symbols.{is_used, place_of}
use Rattle.spec_avro.specs.WellFormed.{HaveDistinctNames}
use Rattle.spec_avro.specs.Options.{given, or_else}
use Rattle.spec_avro.specs.declared.place.Partner.{Partner}
use Rattle.spec_avro.specs.declared.place.Route.{Route}

abbrev pub field_names : List FieldNode → List (List ℕ)
field_names fs = map (λ f. f.name) fs

-- ---- for each of the writer's fields, the position of its partner among the reader's

-- "fields are matched by name"
abbrev pub by_name : List FieldNode → List FieldNode → List (Option ℕ)
by_name ws rs = map (λ f. place_of f.name (field_names rs)) ws

-- This project's own rule: an alias adds a partner and replaces no name. A reader's field whose name is no writer's
-- takes the first of its aliases that names a writer's field without a partner, one reader's field after another.

-- a position where there is no partner yet
abbrev pub if_free : List (Option ℕ) → Option ℕ → Option ℕ
if_free partners None = None
if_free partners (Some i) = if is_none (slice_index_or partners i None) then Some i else None

-- the first of these names that is of a field without a partner
abbrev pub first_free : List (List ℕ) → List (Option ℕ) → List (List ℕ) → Option ℕ
first_free names partners [] = None
first_free names partners (alias ∷ aliases) =
    or_else (if_free partners (place_of alias names)) (first_free names partners aliases)

abbrev pub by_alias : List (List ℕ) → List (Option ℕ) → FieldNode → Option ℕ
by_alias names partners g = if is_some (place_of g.name names) then None else first_free names partners g.aliases

abbrev pub taken_by : ℕ → Option ℕ → List (Option ℕ) → List (Option ℕ)
taken_by j None partners = partners
taken_by j (Some i) partners = slice_set partners i (Some j)

abbrev pub with_aliases : List (List ℕ) → List (Option ℕ) → ℕ → List FieldNode → List (Option ℕ)
with_aliases names partners j [] = partners
with_aliases names partners j (g ∷ rs) = with_aliases names (taken_by j (by_alias names partners g) partners) (suc j) rs

abbrev pub partners : List FieldNode → List FieldNode → List (Option ℕ)
partners ws rs = with_aliases (field_names ws) (by_name ws rs) 0 rs

-- No two of the writer's fields have one partner, as each has but one.
abbrev pub PartnersAreApart : Type 0
PartnersAreApart = (ws rs : List FieldNode) (i k j : ℕ) → HaveDistinctNames ws
    → slice_get (partners ws rs) i ≡ Some (Some j) → slice_get (partners ws rs) k ≡ Some (Some j) → i ≡ k

-- A field goes by its name where it can, whatever the aliases.
abbrev pub NamesGoFirst : Type 0
NamesGoFirst = (ws rs : List FieldNode) (i j : ℕ) (f : FieldNode) → slice_get ws i ≡ Some f
    → place_of f.name (field_names rs) ≡ Some j → slice_get (partners ws rs) i ≡ Some (Some j)

-- The partner of another has that name among its aliases, and has a name of its own that is no writer's.
abbrev pub OthersGoByAlias : Type 0
OthersGoByAlias = (ws rs : List FieldNode) (i j : ℕ) (f : FieldNode) → slice_get ws i ≡ Some f
    → place_of f.name (field_names rs) ≡ None → slice_get (partners ws rs) i ≡ Some (Some j)
    → (g : FieldNode) × (slice_get rs j ≡ Some g) × (is_used f.name g.aliases ≡ true)
    × (place_of g.name (field_names ws) ≡ None)

-- A field stays without a partner only where each reader's field that has its name among its aliases, and whose own
-- name is no writer's, is another's partner.
abbrev pub AliasesAreTaken : Type 0
AliasesAreTaken = (ws rs : List FieldNode) (i j : ℕ) (f g : FieldNode) → HaveDistinctNames ws
    → slice_get ws i ≡ Some f → slice_get (partners ws rs) i ≡ Some None
    → slice_get rs j ≡ Some g → place_of g.name (field_names ws) ≡ None → is_used f.name g.aliases ≡ true
    → (k : ℕ) × (slice_get (partners ws rs) k ≡ Some (Some j))

-- The alias at m of the reader's field g, which is at j, comes before the name of the writer's field that g is the
-- partner of, or g is the partner of none.
abbrev pub PassesOver : List FieldNode → List FieldNode → ℕ → FieldNode → ℕ → Type 0
PassesOver ws rs j g m = (k n : ℕ) (h : FieldNode) → slice_get ws k ≡ Some h
    → slice_get (partners ws rs) k ≡ Some (Some j) → place_of h.name g.aliases ≡ Some n → m < n

-- The reader's fields take their aliases in the declared order, and each the first that it can: an alias that a
-- reader's field passes over is no writer's field's name, or that field goes by its name, or its partner comes before.
abbrev pub EarlierAliasesWereTaken : Type 0
EarlierAliasesWereTaken = (ws rs : List FieldNode) (i j m : ℕ) (f g : FieldNode) → HaveDistinctNames ws
    → slice_get ws i ≡ Some f → slice_get rs j ≡ Some g → place_of g.name (field_names ws) ≡ None
    → place_of f.name g.aliases ≡ Some m → PassesOver ws rs j g m
    → (is_used f.name (field_names rs) ≡ true) ⊎ ((l : ℕ) × (l < j) × (slice_get (partners ws rs) i ≡ Some (Some l)))

-- ---- where each of the writer's fields goes: its own node, and its partner's position and node

abbrev pub partner_at : List FieldNode → ℕ → Option Partner
partner_at rs j = option_map (λ g. record { position = j; node = g.node }) (slice_get rs j)

abbrev pub route_of : List FieldNode → FieldNode → Option ℕ → Route
route_of rs f partner = record { node = f.node; partner = given partner None (partner_at rs) }

abbrev pub routes_to : List FieldNode → List FieldNode → List (Option ℕ) → List Route
routes_to rs [] partners = []
routes_to rs (f ∷ ws) [] = []
routes_to rs (f ∷ ws) (partner ∷ partners) = route_of rs f partner ∷ routes_to rs ws partners

abbrev pub routes : List FieldNode → List FieldNode → List Route
routes ws rs = routes_to rs ws (partners ws rs)

-- some field of the writer's goes to the reader's at that position
abbrev pub goes_to : ℕ → Route → Bool
goes_to j r = given r.partner false (λ p. p.position == j)

abbrev pub has_partner : ℕ → List Route → Bool
has_partner j rs = list_any (goes_to j) rs
