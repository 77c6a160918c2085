-- What is spelled is of its node's type, and can be written again where a long can count its units.
use Rattle.std.proofs.Common.{◌≡◌, ℕ, ◌≤◌, ◌*◌, ◌^◌, ◌<◌, List, [], ◌∷◌, Some, sym, subst, arith, ℤ, pos, negsuc, lit<, slice_get}
use Rattle.spec_avro.specs.Number.{int_limit, long_limit, zigzag}
use Rattle.avro_bytes.specs.Laws.Numbers.{number_below}
use Rattle.spec_avro.specs.Conforming.{Conforms, ConformAll, ConformPairs, ConformsEach, HasBits}
use Rattle.spec_avro.specs.Node.{Node, FieldNode, FixedNode}
use Rattle.spec_avro.specs.Datum.{Datum, Data, Pairs, NullDatum, BooleanDatum, IntDatum, LongDatum, BytesDatum, TextDatum, FixedDatum, EnumDatum, ArrayDatum, MapDatum, UnionDatum, RecordDatum, no_more, more, no_pairs, pair, how_many, how_many_pairs}
use Rattle.spec_avro.specs.declared.limits.TheConstants.{MOST_CONTENT}
use Rattle.spec_avro.specs.Sizes.{HasSizesWithin, HaveSizesWithin, HavePairsWithin}
use Rattle.spec_avro.specs.Writable.{IsWritable, most_items}
use Rattle.spec_avro.specs.Spelling.{Spells, SpellsFields, SpellsItems, SpellsPairs, units_of, units_of_data, units_of_items, units_of_pairs}

bits_of : (n : ℤ) (bits : ℕ) → zigzag n < 2 * 2 ^ bits → HasBits bits n
bits_of (pos n) bits h = omega arith
bits_of (negsuc n) bits h = omega arith

few_items : (ds : Data) → how_many ds ≤ units_of_items ds
few_items no_more = omega arith
few_items (more d ds) = let others = few_items ds in omega (arith, others)

few_pairs : (ps : Pairs) → how_many_pairs ps ≤ units_of_pairs ps
few_pairs no_pairs = omega arith
few_pairs (pair key d ps) = let others = few_pairs ps in omega (arith, others)

module _ (most : ℕ) where
  mutual
    spelled_conforms : (nodes : List Node) (node : ℕ) (d : Datum) (bytes : List ℕ) → Spells nodes node d bytes → units_of d ≤ most → Conforms nodes node d × HasSizesWithin MOST_CONTENT most d
    spelled_conforms nodes node NullDatum bytes s u = (s.0, tt)
    spelled_conforms nodes node (BooleanDatum b) bytes s u = (s.0, tt)
    spelled_conforms nodes node (IntDatum n) bytes s u = ((s.0, bits_of n 31 (number_below int_limit n bytes (lit< tt) (lit< tt) s.1)), tt)
    spelled_conforms nodes node (LongDatum n) bytes s u = ((s.0, bits_of n 63 (number_below long_limit n bytes (lit< tt) (lit< tt) s.1)), tt)
    spelled_conforms nodes node (BytesDatum value) bytes s u = (s.0, s.1.short)
    spelled_conforms nodes node (TextDatum text) bytes s u = ((s.0, s.1.utf8), s.1.short)
    spelled_conforms nodes node (FixedDatum value) bytes s u = ((s.0, subst (λ (k : ℕ). slice_get nodes node ≡ Some (FixedNode s.0 k)) (sym s.3.whole) s.2), tt)
    spelled_conforms nodes node (EnumDatum n) bytes s u = ((s.0, s.1, s.2, s.3, s.4.0), tt)
    spelled_conforms nodes node (ArrayDatum ds) bytes s u = let each = items_conform nodes s.0 ds s.2 s.4 u in ((s.0, s.1, each.0), (omega (arith, few_items ds, u), each.1))
    spelled_conforms nodes node (MapDatum ps) bytes s u = let each = pairs_conform nodes s.0 ps s.2 s.4 u in ((s.0, s.1, each.0), (omega (arith, few_pairs ps, u), each.1))
    spelled_conforms nodes node (UnionDatum n d) bytes s u = let inner = spelled_conforms nodes s.2 d s.6 s.9 u in ((s.0, s.1, s.2, s.3, inner.0), inner.1)
    spelled_conforms nodes node (RecordDatum ds) bytes s u =
        let each = spelled_conforms_each nodes s.1 ds bytes s.3 (omega (arith, u)) in
        ((s.0, s.1, s.2, each.0), each.1)

    items_conform : (nodes : List Node) (inner : ℕ) (ds : Data) (items : List (List ℕ)) → SpellsItems nodes inner ds items → units_of_items ds ≤ most → ConformAll nodes inner ds × HaveSizesWithin MOST_CONTENT most ds
    items_conform nodes inner no_more [] s u = (tt, tt)
    items_conform nodes inner (more d ds) (i ∷ items) s u =
        let one = spelled_conforms nodes inner d i s.0 (omega (arith, u)) in
        let others = items_conform nodes inner ds items s.1 (omega (arith, u)) in
        ((one.0, others.0), (one.1, others.1))
    items_conform nodes inner no_more (i ∷ items) s u = absurd s
    items_conform nodes inner (more d ds) [] s u = absurd s

    pairs_conform : (nodes : List Node) (inner : ℕ) (ps : Pairs) (items : List (List ℕ)) → SpellsPairs nodes inner ps items → units_of_pairs ps ≤ most → ConformPairs nodes inner ps × HavePairsWithin MOST_CONTENT most ps
    pairs_conform nodes inner no_pairs [] s u = (tt, tt)
    pairs_conform nodes inner (pair key d ps) (i ∷ items) s u =
        let one = spelled_conforms nodes inner d s.0.1 s.0.4 (omega (arith, u)) in
        let others = pairs_conform nodes inner ps items s.1 (omega (arith, u)) in
        ((s.0.3.utf8, one.0, others.0), (s.0.3.short, one.1, others.1))
    pairs_conform nodes inner no_pairs (i ∷ items) s u = absurd s
    pairs_conform nodes inner (pair key d ps) [] s u = absurd s

    spelled_conforms_each : (nodes : List Node) (fields : List FieldNode) (ds : Data) (bytes : List ℕ) → SpellsFields nodes fields ds bytes → units_of_data ds ≤ most → ConformsEach nodes fields ds × HaveSizesWithin MOST_CONTENT most ds
    spelled_conforms_each nodes [] no_more bytes s u = (tt, tt)
    spelled_conforms_each nodes (f ∷ fs) (more d ds) bytes s u =
        let one = spelled_conforms nodes f.node d s.0 s.3 (omega (arith, u)) in
        let others = spelled_conforms_each nodes fs ds s.1 s.4 (omega (arith, u)) in
        ((one.0, others.0), (one.1, others.1))
    spelled_conforms_each nodes [] (more d ds) bytes s u = absurd s
    spelled_conforms_each nodes (f ∷ fs) no_more bytes s u = absurd s

pub conforms : (nodes : List Node) (node : ℕ) (d : Datum) (bytes : List ℕ) → Spells nodes node d bytes → Conforms nodes node d
conforms nodes node d bytes s = (spelled_conforms (units_of d) nodes node d bytes s (omega arith)).0

pub writable : (nodes : List Node) (node : ℕ) (d : Datum) (bytes : List ℕ) → Spells nodes node d bytes → units_of d ≤ most_items → IsWritable d
writable nodes node d bytes s u = (spelled_conforms most_items nodes node d bytes s u).1
