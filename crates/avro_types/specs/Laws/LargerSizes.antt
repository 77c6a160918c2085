-- Sizes that are within bounds are within each larger ones.
use Rattle.std.proofs.Common.{◌≤◌, ℕ, List, [], ◌∷◌, Option, Some, None, IfSome, arith}
use Rattle.std.specs.List.{AllByRecursion}
use Rattle.spec_avro.specs.Datum.{Datum, Data, Pairs, BytesDatum, TextDatum, ArrayDatum, MapDatum, UnionDatum, RecordDatum, no_more, more, no_pairs, pair}
use Rattle.spec_avro.specs.Node.{Node, FieldNode}
use Rattle.spec_avro.specs.Sizes.{HasSizesWithin, HaveSizesWithin, HavePairsWithin, DefaultsHaveSizesWithin}

module _ (text items longer further : ℕ) (le : text ≤ longer) (few : items ≤ further) where
  mutual
    pub sizes-within : (d : Datum) → HasSizesWithin text items d → HasSizesWithin longer further d
    sizes-within (BytesDatum value) h = omega arith
    sizes-within (TextDatum value) h = omega arith
    sizes-within (ArrayDatum ds) h = (omega (arith, h.0), data-within ds h.1)
    sizes-within (MapDatum ps) h = (omega (arith, h.0), pairs-within ps h.1)
    sizes-within (UnionDatum n d) h = sizes-within d h
    sizes-within (RecordDatum ds) h = data-within ds h
    sizes-within _ h = tt

    data-within : (ds : Data) → HaveSizesWithin text items ds → HaveSizesWithin longer further ds
    data-within no_more h = tt
    data-within (more d ds) h = (sizes-within d h.0, data-within ds h.1)

    pairs-within : (ps : Pairs) → HavePairsWithin text items ps → HavePairsWithin longer further ps
    pairs-within no_pairs h = tt
    pairs-within (pair key d ps) h = (omega (arith, h.0), sizes-within d h.1, pairs-within ps h.2)

  default-within : (o : Option Datum) → IfSome o (HasSizesWithin text items) → IfSome o (HasSizesWithin longer further)
  default-within None h = tt
  default-within (Some d) h = sizes-within d h

  fields-within : (fs : List FieldNode) → AllByRecursion (λ f. IfSome f.default (HasSizesWithin text items)) fs → AllByRecursion (λ f. IfSome f.default (HasSizesWithin longer further)) fs
  fields-within [] h = tt
  fields-within (f ∷ fs) h = (default-within f.default h.0, fields-within fs h.1)

  pub defaults-within : (nodes : List Node) → DefaultsHaveSizesWithin text items nodes → DefaultsHaveSizesWithin longer further nodes
  defaults-within nodes h node name fields at = fields-within fields (h node name fields at)
