-- What is kept of nodes that have met, so that it is found once. All of this is this project's own.
use Rattle.std.specs.Prelude.{◌≡◌, ℕ, List, Option, Some, None, IfSome, option_map, slice_get}
use Rattle.std.specs.BTreeMap.{BTreeMap, get}
use Rattle.std.specs.Ordering.{nat_cmp}
use Rattle.spec_avro.specs.Node.{Node, UnionNode}
use Rattle.spec_avro.specs.Options.{given}
use Rattle.spec_avro.specs.Resolution.{field_lists, lacking}
use Rattle.program_compiler.specs.Members.{ArePositionsOf}
use Rattle.program_compiler.specs.NamedTypes.{AreTypesOf}
use Rattle.program_ir.specs.Sections.{pair_cmp}
use Rattle.program_compiler.specs.declared.known.Known.{Known}

-- the node of the first of the reader's fields that has neither a partner nor a default
abbrev pub lacking_node : List Node → List Node → ℕ × ℕ → Option ℕ
lacking_node W R pair =
    given (field_lists (slice_get W pair.0) (slice_get R pair.1)) None (λ p. option_map (λ g. g.node) (lacking p.0 p.1))

-- under a pair of records is that node
abbrev pub AreLacking : List Node → List Node → BTreeMap (ℕ × ℕ) (Option ℕ) → Type 0
AreLacking W R nodes = (pair : ℕ × ℕ) (node : Option ℕ) → get pair_cmp nodes pair ≡ Some node
    → node ≡ lacking_node W R pair

-- under a union are the positions of its branches
abbrev pub ArePlaced : List Node → BTreeMap ℕ (BTreeMap ℕ ℕ) → Type 0
ArePlaced R positions = (r : ℕ) (members : List ℕ) (found : BTreeMap ℕ ℕ) → slice_get R r ≡ Some (UnionNode members)
    → get nat_cmp positions r ≡ Some found → ArePositionsOf members found

pub record AreKnown (W R : List Node) (known : Known) : Type 0 where
  pub lacking : AreLacking W R known.lacking
  pub types : IfSome known.types (AreTypesOf R)
  pub positions : ArePlaced R known.positions
