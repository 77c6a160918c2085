-- The written form is a spelling, none is shorter, and what is spelled is of its node's type.
use Rattle.std.proofs.Common.{None, ◌≡◌, ℕ, zero, suc, ◌+◌, ◌<◌, ◌≤◌, List, [], ◌∷◌, ◌++◌, length, refl, sym, ap, subst, ◌∙◌, append_assoc, arith, ℤ, pos, negsuc, lit<, lit≤}
use Rattle.std.proofs.lemmas.List.{append-nil, length-append}
use Rattle.std.proofs.lemmas.Option.{slice_get_within}
use Rattle.std.specs.Str.{IsUtf8}
use Rattle.spec_avro.specs.Blob.{IsBlob}
use Rattle.spec_avro.specs.Blocks.{IsItems, joined}
use Rattle.spec_avro.specs.Number.{IsNumber64, int_limit, long_limit}
use Rattle.spec_avro.specs.Shortest.{shortest}
use Rattle.avro_bytes.specs.Shortest.{FitsLimit}
use Rattle.spec_avro.specs.Text.{IsText}
use Rattle.avro_bytes.specs.Laws.Shortests.{shortest_is_number, shortest_is_shortest}
use Rattle.spec_avro.specs.declared.limits.TheConstants.{MOST_SYMBOLS, MOST_CONTENT}
use Rattle.spec_avro.specs.Conforming.{Conforms, ConformAll, ConformPairs, ConformsEach, HasBits}
use Rattle.spec_avro.specs.Node.{Node, FieldNode, EnumNode, UnionNode}
use Rattle.spec_avro.specs.WellFormed.{IsWellFormed}
use Rattle.spec_avro.specs.Datum.{Datum, Data, Pairs, NullDatum, BooleanDatum, IntDatum, LongDatum, BytesDatum, TextDatum, FixedDatum, EnumDatum, ArrayDatum, MapDatum, UnionDatum, RecordDatum, no_more, more, no_pairs, pair, how_many, how_many_pairs}
use Rattle.spec_avro.specs.Writable.{IsWritable, AreWritable, AreWritablePairs, most_items}
use Rattle.spec_avro.specs.Spelling.{Spells, SpellsFields, SpellsItems, SpellsPairs}
use Rattle.spec_avro.specs.Written.{after_length, in_block}
use Rattle.spec_avro.specs.Writing.{written, written_data, written_pairs}
use Rattle.avro_datum.proofs.ByKind.{member_of}
use Rattle.avro_datum.proofs.Counts.{block_len, items_longer}

-- ---- a number's width, and its zig-zag

int_bits : (n : ℤ) → HasBits 31 n → FitsLimit int_limit n
int_bits (pos n) h = omega arith
int_bits (negsuc n) h = omega arith

long_bits : (n : ℤ) → HasBits 63 n → FitsLimit long_limit n
long_bits (pos n) h = omega arith
long_bits (negsuc n) h = omega arith

position_bits : (n many : ℕ) → n < many → many ≤ MOST_SYMBOLS → FitsLimit int_limit (pos n)
position_bits n many lt le = omega arith

length_number : (n : ℕ) → n ≤ MOST_CONTENT → IsNumber64 (pos n) (shortest (pos n))
length_number n h = shortest_is_number long_limit (pos n) (lit< tt) (lit< tt) (lit≤ tt) (long_bits (pos n) (omega arith))

count_number : (n : ℕ) → n ≤ most_items → IsNumber64 (pos n) (shortest (pos n))
count_number n h = shortest_is_number long_limit (pos n) (lit< tt) (lit< tt) (lit≤ tt) (long_bits (pos n) (omega arith))

-- ---- the written form is a spelling

one_block : (many : ℕ) (items : List (List ℕ)) (bytes : List ℕ) → many ≡ length items → joined items ≡ bytes → many ≤ most_items → IsItems items (in_block many bytes)
one_block zero [] bytes m j few = record { blocks = []; all = refl; spelled = subst (λ (b : List ℕ). IsNumber64 (pos 0) (b ++ shortest (pos 0))) j (count_number 0 (lit≤ tt)) }
one_block zero (i ∷ items) bytes m j few = absurd (omega (arith, m))
one_block (suc n) items bytes m j few = record {
  blocks = items ∷ [];
  all = append-nil items;
  spelled =
      (shortest (pos (suc n)), shortest (pos 0), ap (λ (b : List ℕ). shortest (pos (suc n)) ++ (b ++ shortest (pos 0))) (sym j), omega (arith, m), (None, subst (λ (k : ℕ). IsNumber64 (pos k) (shortest (pos (suc n)))) m (count_number (suc n) few), tt), count_number 0 (lit≤ tt));
}

-- the written items, one by one
record Items (P : List (List ℕ) → Type 0) (many : ℕ) (bytes : List ℕ) : Type 0 where
  items : List (List ℕ)
  count : many ≡ length items
  flat : joined items ≡ bytes
  spelled : P items

text_written : (key : List ℕ) → length key ≤ MOST_CONTENT → IsUtf8 key → IsText key (after_length key)
text_written key short utf8 = record { len = shortest (pos (length key)); parts = refl; number = length_number (length key) short; short = short; utf8 = utf8 }

module _ (nodes : List Node) (wf : IsWellFormed nodes) where
  mutual
    unfolding written written_data written_pairs

    written_spelled_at : (node : ℕ) (d : Datum) → Conforms nodes node d → IsWritable d → Spells nodes node d (written d)
    written_spelled_at node NullDatum c s = (c, refl)
    written_spelled_at node (BooleanDatum b) c s = (c, refl)
    written_spelled_at node (IntDatum n) c s = (c.0, shortest_is_number int_limit n (lit< tt) (lit< tt) (lit≤ tt) (int_bits n c.1))
    written_spelled_at node (LongDatum n) c s = (c.0, shortest_is_number long_limit n (lit< tt) (lit< tt) (lit≤ tt) (long_bits n c.1))
    written_spelled_at node (BytesDatum value) c s = (c, record { len = shortest (pos (length value)); parts = refl; number = length_number (length value) s; short = s })
    written_spelled_at node (TextDatum text) c s = (c.0, text_written text s c.1)
    written_spelled_at node (FixedDatum value) c s = (c.0, length value, c.1, record { same = refl; whole = refl })
    written_spelled_at node (EnumDatum n) c s =
        let few = wf.each node (EnumNode c.0 c.1 c.2) c.3 in
        (c.0, c.1, c.2, c.3, (c.4, shortest_is_number int_limit (pos n) (lit< tt) (lit< tt) (lit≤ tt) (position_bits n (length c.1) c.4 few.1)))
    written_spelled_at node (ArrayDatum ds) c s =
        let i = written_items c.0 ds c.2 s.1 in
        (c.0, c.1, i.items, one_block (how_many ds) i.items (written_data ds) i.count i.flat s.0, i.spelled)
    written_spelled_at node (MapDatum ps) c s =
        let i = written_pair_items c.0 ps c.2 s.1 in
        (c.0, c.1, i.items, one_block (how_many_pairs ps) i.items (written_pairs ps) i.count i.flat s.0, i.spelled)
    written_spelled_at node (UnionDatum n d) c s =
        let w = wf.each node (UnionNode c.0) c.1 in
        let below = slice_get_within c.0 n c.2 c.3 in
        (c.0, c.1, c.2, c.3, (member_of nodes node c.0 n c.2 w.0 c.3).no_union, shortest (pos n), written d, refl, (below, shortest_is_number int_limit (pos n) (lit< tt) (lit< tt) (lit≤ tt) (position_bits n (length c.0) below (omega (arith, w.1)))), written_spelled_at c.2 d c.4 s)
    written_spelled_at node (RecordDatum ds) c s = (c.0, c.1, c.2, written_spelled_each c.1 ds c.3 s)

    written_items : (inner : ℕ) (ds : Data) → ConformAll nodes inner ds → AreWritable ds → Items (SpellsItems nodes inner ds) (how_many ds) (written_data ds)
    written_items inner no_more c s = record { items = []; count = refl; flat = refl; spelled = tt }
    written_items inner (more d ds) c s =
        let others = written_items inner ds c.1 s.1 in
        record { items = written d ∷ others.items; count = ap suc others.count; flat = ap (λ (b : List ℕ). written d ++ b) others.flat; spelled = (written_spelled_at inner d c.0 s.0, others.spelled) }

    written_pair_items : (inner : ℕ) (ps : Pairs) → ConformPairs nodes inner ps → AreWritablePairs ps → Items (SpellsPairs nodes inner ps) (how_many_pairs ps) (written_pairs ps)
    written_pair_items inner no_pairs c s = record { items = []; count = refl; flat = refl; spelled = tt }
    written_pair_items inner (pair key d ps) c s =
        let others = written_pair_items inner ps c.2 s.2 in
        record {
          items = (after_length key ++ written d) ∷ others.items;
          count = ap suc others.count;
          flat = append_assoc (after_length key) (written d) (joined others.items) ∙ ap (λ (b : List ℕ). after_length key ++ (written d ++ b)) others.flat;
          spelled = ((after_length key, written d, refl, text_written key s.0 c.0, written_spelled_at inner d c.1 s.1), others.spelled);
        }

    written_spelled_each : (fields : List FieldNode) (ds : Data) → ConformsEach nodes fields ds → AreWritable ds → SpellsFields nodes fields ds (written_data ds)
    written_spelled_each [] no_more c s = refl
    written_spelled_each (f ∷ fs) (more d ds) c s = (written d, written_data ds, refl, written_spelled_at f.node d c.0 s.0, written_spelled_each fs ds c.1 s.1)
    written_spelled_each [] (more d ds) c s = absurd c
    written_spelled_each (f ∷ fs) no_more c s = absurd c

pub written_spelled : (nodes : List Node) (node : ℕ) (d : Datum) → IsWellFormed nodes → Conforms nodes node d → IsWritable d → Spells nodes node d (written d)
written_spelled nodes node d wf c s = written_spelled_at nodes wf node d c s

-- ---- none is shorter

after_length_len : (value : List ℕ) → length (after_length value) ≡ length (shortest (pos (length value))) + length value
after_length_len value = length-append (shortest (pos (length value))) value

blob_shortest : (value bytes : List ℕ) → IsBlob value bytes → length (after_length value) ≤ length bytes
blob_shortest value bytes s = omega (arith, after_length_len value, ap length s.parts, length-append s.len value, shortest_is_shortest long_limit (pos (length value)) s.len s.number)

text_shortest : (text bytes : List ℕ) → IsText text bytes → length (after_length text) ≤ length bytes
text_shortest text bytes s = omega (arith, after_length_len text, ap length s.parts, length-append s.len text, shortest_is_shortest long_limit (pos (length text)) s.len s.number)

block_shortest : (many : ℕ) (written_bytes : List ℕ) (items : List (List ℕ)) (bytes : List ℕ) → IsItems items bytes → many ≡ length items → length written_bytes ≤ length (joined items) → length (in_block many written_bytes) ≤ length bytes
block_shortest many written_bytes items bytes s m le = let one = items_longer items bytes s in rw m (omega (arith, block_len (length items) written_bytes, one, le))

mutual
  unfolding written written_data written_pairs

  pub none_shorter : (nodes : List Node) (node : ℕ) (d : Datum) (bytes : List ℕ) → Spells nodes node d bytes → length (written d) ≤ length bytes
  none_shorter nodes node NullDatum bytes s = omega arith
  none_shorter nodes node (BooleanDatum b) bytes s = omega (arith, ap length s.1)
  none_shorter nodes node (IntDatum n) bytes s = shortest_is_shortest int_limit n bytes s.1
  none_shorter nodes node (LongDatum n) bytes s = shortest_is_shortest long_limit n bytes s.1
  none_shorter nodes node (BytesDatum value) bytes s = blob_shortest value bytes s.1
  none_shorter nodes node (TextDatum text) bytes s = text_shortest text bytes s.1
  none_shorter nodes node (FixedDatum value) bytes s = omega (arith, ap length s.3.same)
  none_shorter nodes node (EnumDatum n) bytes s = shortest_is_shortest int_limit (pos n) bytes s.4.1
  none_shorter nodes node (ArrayDatum ds) bytes s = let i = items_shorter nodes s.0 ds s.2 s.4 in block_shortest (how_many ds) (written_data ds) s.2 bytes s.3 i.0 i.1
  none_shorter nodes node (MapDatum ps) bytes s = let i = pairs_shorter nodes s.0 ps s.2 s.4 in block_shortest (how_many_pairs ps) (written_pairs ps) s.2 bytes s.3 i.0 i.1
  none_shorter nodes node (UnionDatum n d) bytes s =
      let first = shortest_is_shortest int_limit (pos n) s.5 s.8.1 in
      let inner = none_shorter nodes s.2 d s.6 s.9 in
      omega (arith, first, inner, ap length s.7, length-append s.5 s.6, length-append (shortest (pos n)) (written d))
  none_shorter nodes node (RecordDatum ds) bytes s = none_shorter_each nodes s.1 ds bytes s.3

  items_shorter : (nodes : List Node) (inner : ℕ) (ds : Data) (items : List (List ℕ)) → SpellsItems nodes inner ds items → (how_many ds ≡ length items) × (length (written_data ds) ≤ length (joined items))
  items_shorter nodes inner no_more [] s = (refl, omega arith)
  items_shorter nodes inner (more d ds) (i ∷ items) s =
      let one = none_shorter nodes inner d i s.0 in
      let others = items_shorter nodes inner ds items s.1 in
      (ap suc others.0, omega (arith, one, others.1, length-append i (joined items), length-append (written d) (written_data ds)))
  items_shorter nodes inner no_more (i ∷ items) s = absurd s
  items_shorter nodes inner (more d ds) [] s = absurd s

  pairs_shorter : (nodes : List Node) (inner : ℕ) (ps : Pairs) (items : List (List ℕ)) → SpellsPairs nodes inner ps items → (how_many_pairs ps ≡ length items) × (length (written_pairs ps) ≤ length (joined items))
  pairs_shorter nodes inner no_pairs [] s = (refl, omega arith)
  pairs_shorter nodes inner (pair key d ps) (i ∷ items) s =
      let p = s.0 in
      let first = text_shortest key s.0.0 s.0.3 in
      let one = none_shorter nodes inner d s.0.1 s.0.4 in
      let others = pairs_shorter nodes inner ps items s.1 in
      (ap suc others.0, omega (arith, first, one, others.1, ap length s.0.2, length-append s.0.0 s.0.1, length-append i (joined items), length-append (after_length key) (written d ++ written_pairs ps), length-append (written d) (written_pairs ps)))
  pairs_shorter nodes inner no_pairs (i ∷ items) s = absurd s
  pairs_shorter nodes inner (pair key d ps) [] s = absurd s

  none_shorter_each : (nodes : List Node) (fields : List FieldNode) (ds : Data) (bytes : List ℕ) → SpellsFields nodes fields ds bytes → length (written_data ds) ≤ length bytes
  none_shorter_each nodes [] no_more bytes s = omega arith
  none_shorter_each nodes (f ∷ fs) (more d ds) bytes s =
      let one = none_shorter nodes f.node d s.0 s.3 in
      let others = none_shorter_each nodes fs ds s.1 s.4 in
      omega (arith, one, others, ap length s.2, length-append s.0 s.1, length-append (written d) (written_data ds))
  none_shorter_each nodes [] (more d ds) bytes s = absurd s
  none_shorter_each nodes (f ∷ fs) no_more bytes s = absurd s
