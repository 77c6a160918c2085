-- The named types of a schema under their unqualified names (Avro 1.11, "Names", "Aliases").
use Rattle.std.specs.Prelude.{◌≡◌, ℕ, ◌==◌, List, [], ◌∷◌, map, Bool, Option, Some, String, slice_get}
use Rattle.std.specs.BTreeMap.{BTreeMap, get_by_text}
use Rattle.std.specs.Global.{Vec}
use Rattle.std.specs.List.{list_any}
use Rattle.spec_avro.specs.FullNames.{unqualified}
use Rattle.spec_avro.specs.Node.{Node, Names, FixedNode, EnumNode, RecordNode}
use Rattle.spec_avro.specs.Symbols.{is_used}
use Rattle.spec_avro.specs.Options.{given}
use Rattle.program_compiler.specs.declared.named_types.NamedTypes.{NamedTypes}

-- the last parts of the full name and of the aliases
abbrev pub last_parts : Names → List (List ℕ)
last_parts names = map unqualified (names.full ∷ names.aliases)

-- the unqualified names that a record, an enum or a fixed has, by its name and by its aliases
abbrev pub unqualified_names : Option Node → List (List ℕ)
unqualified_names (Some (FixedNode names size)) = last_parts names
unqualified_names (Some (EnumNode names symbols default)) = last_parts names
unqualified_names (Some (RecordNode names fields)) = last_parts names
unqualified_names _ = []

abbrev pub is_among : ℕ → List ℕ → Bool
is_among node nodes = list_any (λ other. other == node) nodes

-- the nodes that are under a text
abbrev pub nodes_under : {A : Type 0} → BTreeMap (String A) (Vec ℕ) → List ℕ → List ℕ
nodes_under nodes text = given (get_by_text nodes text) [] (λ own. own.items)

abbrev pub stands_under : {A : Type 0} → BTreeMap (String A) (Vec ℕ) → List ℕ → ℕ → Bool
stands_under nodes text node = is_among node (nodes_under nodes text)

-- Under an unqualified name are the nodes that have it, and no others.
abbrev pub AreTypesOf : List Node → NamedTypes → Type 0
AreTypesOf R types = (last : List ℕ) (node : ℕ)
    → stands_under types.nodes last node ≡ is_used last (unqualified_names (slice_get R node))
