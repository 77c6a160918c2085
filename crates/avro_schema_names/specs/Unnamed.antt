-- The types of a union's branches: those that have no name, and which of them have one.
use Rattle.std.specs.Prelude.{◌≡◌, ℕ, ◌==◌, ◌&&◌, List}
use Rattle.std.specs.BTreeSet.{BTreeSet, contains}
use Rattle.std.specs.List.{list_any}
use Rattle.std.specs.Ordering.{nat_cmp}
use Rattle.spec_schema.specs.Head.{Head, NullHead, BooleanHead, IntHead, LongHead, BytesHead, TextHead, ArrayHead, MapHead, UnionHead, head_at}
use Rattle.avro_schema_names.specs.Head.{is_named_head}
use Rattle.avro_schema_names.specs.declared.unions.Unnamed.{Unnamed}
use Rattle.avro_schema_names.specs.declared.unions.Unnamed.TheVariants as unnamed

-- what is seen of the nodes of a type
abbrev pub unnamed_head : Unnamed → Head
unnamed_head unnamed.Null = NullHead
unnamed_head unnamed.Boolean = BooleanHead
unnamed_head unnamed.Int = IntHead
unnamed_head unnamed.Long = LongHead
unnamed_head unnamed.Bytes = BytesHead
unnamed_head unnamed.Text = TextHead
unnamed_head unnamed.Array = ArrayHead
unnamed_head unnamed.Map = MapHead
unnamed_head unnamed.Union = UnionHead

-- the set has those of the branches that have names
abbrev pub AreNamedMembers : BTreeSet ℕ → List ℕ → List Head → Type 0
AreNamedMembers named members heads = (n : ℕ)
    → contains nat_cmp named n ≡ (is_named_head (head_at heads n) && list_any (λ m. n == m) members)
