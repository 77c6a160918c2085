-- What is read as a default by a node is one.
use Rattle.std.proofs.Common.{◌≡◌, ℕ, ℤ, pos, negsuc, ◌^◌, ◌<◌, List, [], ◌∷◌, length, Bool, true, false, cond, eqb, Option, Some, None, option_map, option_and_then, slice_get, refl, sym, ap, subst, ◌∙◌, nat_lt}
use Rattle.std.specs.List.{AllByRecursion, list_all}
use Rattle.std.specs.Ordering.{nat_cmp, match_ordering}
use Rattle.std.specs.Str.{chars}
use Rattle.std.specs.Cmp.Lexicographic.{slice_cmp}
use Rattle.std.specs.declared.cmp.Ordering.{Ordering}
use Rattle.std.specs.declared.cmp.Ordering.TheVariants.{Less, Equal, Greater}
use Rattle.std.proofs.lemmas.Bool.{ltb-true, eqb-true}
use Rattle.serde_json.specs.Data as json
use Rattle.serde_json.specs.Data.{Num, null, boolean, number, string, array, object, Items, no_items, item, Members, no_members, member}
use Rattle.serde_json.specs.Find.{as_i64, get_member}
use Rattle.spec_avro.specs.Conforming.{HasBits}
use Rattle.spec_avro.specs.Datum.{Datum, Data, Pairs, NullDatum, BooleanDatum, IntDatum, LongDatum, BytesDatum, TextDatum, FixedDatum, EnumDatum, ArrayDatum, MapDatum, UnionDatum, RecordDatum, no_more, more, no_pairs, pair}
use Rattle.avro_types.specs.Laws.Booleans.{both, none_some}
use Rattle.avro_types.specs.Laws.Placed.{place-some}
use Rattle.spec_avro.specs.Node.{NullNode, BooleanNode, IntNode, LongNode, BytesNode, TextNode, FixedNode, EnumNode, ArrayNode, MapNode, UnionNode}
use Rattle.spec_avro.specs.Symbols.{place_of}
use Rattle.spec_schema.specs.DefaultData.{AreBytes, AreFields, AreItems, ArePairs, IsDefaultAt, IsDefaultOf, array_default, boolean_default, by_first as by_first_member, by_type, bytes_default, enum_default, fixed_default, int_default, long_default, map_default, no_field, no_item, no_pair, null_default, one_field, one_item, one_pair, record_default, text_default}
use Rattle.spec_schema.specs.Defaults.{Reading, array_value, at_node, by_first, bytes_in, default_of, fields_value, fixed_value, has_bits, int_value, items_value, leaf_value, long_value, member_value, number_value, object_value, pairs_value, text_value, value_of}
use Rattle.spec_schema.specs.Draft.{Draft, Whole, RecordDraft, DraftField}
use Rattle.avro_schema.proofs.DefaultParts.{member_value-get}

-- ---- options that give something

abbrev pub IsMapOf : {A B : Type 0} → (A → B) → Option A → B → Type 0
IsMapOf {A} f o b = (a : A) × (o ≡ Some a) × (b ≡ f a)

pub map-inv : {A B : Type 0} (f : A → B) (o : Option A) (b : B) → option_map f o ≡ Some b → IsMapOf f o b
map-inv f None b e = absurd (let no : ⊥ = cc in no)
map-inv f (Some a) b e = (a, refl, let same : b ≡ f a = cc in same)

pub then-inv : {A B : Type 0} (f : A → Option B) (o : Option A) (b : B) → option_and_then f o ≡ Some b → (a : A) × (o ≡ Some a) × (f a ≡ Some b)
then-inv f None b e = absurd (let no : ⊥ = cc in no)
then-inv f (Some a) b e = (a, refl, e)

cond-inv : {A : Type 0} (test : Bool) (a b : A) → cond test (Some a) None ≡ Some b → (test ≡ true) × (b ≡ a)
cond-inv true a b e = (refl, let same : b ≡ a = cc in same)
cond-inv false a b e = absurd (let no : ⊥ = cc in no)

-- ---- numbers and texts

bits-inv : (bits : ℕ) (z : ℤ) → has_bits bits z ≡ true → HasBits bits z
bits-inv bits (pos n) e = ltb-true n (2 ^ bits) e
bits-inv bits (negsuc n) e = ltb-true n (2 ^ bits) e

int-inv : (o : Option ℤ) (t : Datum) → int_value o ≡ Some t → (z : ℤ) × (o ≡ Some z) × (t ≡ IntDatum z) × HasBits 31 z
int-inv None t e = absurd (let no : ⊥ = cc in no)
int-inv (Some z) t e = let p = cond-inv (has_bits 31 z) (IntDatum z) t e in (z, refl, p.1, bits-inv 31 z p.0)

long-inv : (o : Option ℤ) (t : Datum) → long_value o ≡ Some t → (z : ℤ) × (o ≡ Some z) × (t ≡ LongDatum z) × HasBits 63 z
long-inv None t e = absurd (let no : ⊥ = cc in no)
long-inv (Some z) t e = let p = cond-inv (has_bits 63 z) (LongDatum z) t e in (z, refl, p.1, bits-inv 63 z p.0)

all_bytes : (cs : List ℕ) → list_all (λ c. nat_lt c 256) cs ≡ true → AllByRecursion (λ c. c < 256) cs
all_bytes [] e = tt
all_bytes (c ∷ cs) e = let p = both (nat_lt c 256) _ e in (ltb-true c 256 p.0, all_bytes cs p.1)

bytes-inv : (s bytes : List ℕ) → bytes_in s ≡ Some bytes → AreBytes s × (bytes ≡ chars s)
bytes-inv s bytes e = let p = cond-inv (list_all (λ c. nat_lt c 256) (chars s)) (chars s) bytes e in (all_bytes (chars s) p.0, p.1)

fixed-inv : (size : ℕ) (o : Option (List ℕ)) (t : Datum) → fixed_value size o ≡ Some t → (bytes : List ℕ) × (o ≡ Some bytes) × (t ≡ FixedDatum bytes) × (length bytes ≡ size)
fixed-inv size None t e = absurd (let no : ⊥ = cc in no)
fixed-inv size (Some bytes) t e = let p = cond-inv (eqb (length bytes) size) (FixedDatum bytes) t e in (bytes, refl, p.1, eqb-true (length bytes) size p.0)

module _ (nodes : List Draft) where
  -- what a reading gives is what the value is
  abbrev Reads : json.Data → Reading → Type 0
  Reads v reading = (d : Draft) (t : Datum) → reading d ≡ Some t → IsDefaultOf nodes d v t

  null-read : Reads null (leaf_value null)
  null-read (Whole NullNode) t e = subst (IsDefaultOf nodes (Whole NullNode) null) (let same : NullDatum ≡ t = cc in same) null_default
  null-read d t e = absurd (let no : ⊥ = cc in no)

  boolean-read : (b : Bool) → Reads (boolean b) (leaf_value (boolean b))
  boolean-read b (Whole BooleanNode) t e = subst (IsDefaultOf nodes (Whole BooleanNode) (boolean b)) (let same : BooleanDatum b ≡ t = cc in same) boolean_default
  boolean-read b d t e = absurd (let no : ⊥ = cc in no)

  number-read : (x : Num) → Reads (number x) (number_value x)
  number-read x (Whole IntNode) t e = let p = int-inv (as_i64 x) t e in rw p.2 (int_default p.1 p.3)
  number-read x (Whole LongNode) t e = let p = long-inv (as_i64 x) t e in rw p.2 (long_default p.1 p.3)
  number-read x d t e = absurd (let no : ⊥ = cc in no)

  text-read : (s : List ℕ) → Reads (string s) (text_value s)
  text-read s (Whole BytesNode) t e =
      let p = map-inv BytesDatum (bytes_in s) t e in
      let q = bytes-inv s p.0 p.1 in
      rw (p.2, q.1) (bytes_default q.0)
  text-read s (Whole TextNode) t e = subst (IsDefaultOf nodes (Whole TextNode) (string s)) (let same : TextDatum s ≡ t = cc in same) text_default
  text-read s (Whole (FixedNode names size)) t e =
      let p = fixed-inv size (bytes_in s) t e in
      let q = bytes-inv s p.0 p.1 in
      rw (p.2, q.1) (fixed_default q.0 (ap length (sym q.1) ∙ p.3))
  text-read s (Whole (EnumNode names symbols default)) t e =
      let p = map-inv EnumDatum (place_of s symbols) t e in
      rw p.2 (enum_default (place-some s symbols p.0 p.1))
  text-read s d t e = absurd (let no : ⊥ = cc in no)

  array-read : (vs : Items) (items : ℕ → Option Data) → ((m : ℕ) (es : Data) → items m ≡ Some es → AreItems nodes m vs es) → Reads (array vs) (array_value items)
  array-read vs items h (Whole (ArrayNode m)) t e = let p = map-inv ArrayDatum (items m) t e in rw p.2 (array_default (h m p.0 p.1))
  array-read vs items h d t e = absurd (let no : ⊥ = cc in no)

  -- ---- by the node at an index

  first-read : (v : json.Data) (reading : Reading) → Reads v reading → (members : List ℕ) (n : ℕ) (t : Datum) → slice_get nodes n ≡ Some (Whole (UnionNode members)) → by_first nodes reading (Some (Whole (UnionNode members))) ≡ Some t → IsDefaultAt nodes n v t
  first-read v reading h [] n t at e = absurd (let no : ⊥ = cc in no)
  first-read v reading h (m ∷ ms) n t at e =
      let p = map-inv (UnionDatum 0) (option_and_then reading (slice_get nodes m)) t e in
      let q = then-inv reading (slice_get nodes m) p.0 p.1 in
      rw p.2 (by_first_member at q.1 (h q.0 p.0 q.2))

  found-read : (v : json.Data) (reading : Reading) → Reads v reading → (o : Option Draft) (n : ℕ) (t : Datum) → slice_get nodes n ≡ o → by_first nodes reading o ≡ Some t → IsDefaultAt nodes n v t
  found-read v reading h None n t at e = absurd (let no : ⊥ = cc in no)
  found-read v reading h (Some (Whole (UnionNode members))) n t at e = first-read v reading h members n t at e
  found-read v reading h (Some d) n t at e = by_type at (h d t e)

  node-read : (v : json.Data) (reading : Reading) → Reads v reading → (n : ℕ) (t : Datum) → at_node nodes n reading ≡ Some t → IsDefaultAt nodes n v t
  node-read v reading h n t e = found-read v reading h (slice_get nodes n) n t refl e

  -- ---- a record's fields, and an object

  abbrev AllRead : Members → Type 0
  AllRead ms = (k : List ℕ) (d : json.Data) → get_member k ms ≡ Some d → Reads d (value_of d nodes)

  fields-read : (ms : Members) → AllRead ms → (fs : List DraftField) (es : Data) → fields_value nodes (member_value ms nodes) fs ≡ Some es → AreFields nodes ms fs es
  fields-read ms h [] es e = subst (AreFields nodes ms []) (let same : no_more ≡ es = cc in same) no_field
  fields-read ms h (f ∷ fs) es e =
      let p = then-inv (λ d. option_map (more d) (fields_value nodes (member_value ms nodes) fs)) (option_and_then (at_node nodes f.node) (member_value ms nodes f.name)) es e in
      let q = map-inv (more p.0) (fields_value nodes (member_value ms nodes) fs) es p.2 in
      let v = then-inv (at_node nodes f.node) (member_value ms nodes f.name) p.0 p.1 in
      let w = map-inv (λ d. value_of d nodes) (get_member f.name ms) v.0 (sym (member_value-get ms nodes f.name) ∙ v.1) in
      rw q.2 (one_field w.1 (node-read w.0 (value_of w.0 nodes) (h f.name w.0 w.1) f.node p.0 (ap (at_node nodes f.node) (sym w.2) ∙ v.2)) (fields-read ms h fs q.0 q.1))

  object-read : (ms : Members) → AllRead ms → (pairs : ℕ → Option Pairs) → ((m : ℕ) (ps : Pairs) → pairs m ≡ Some ps → ArePairs nodes m ms ps) → Reads (object ms) (object_value nodes (member_value ms nodes) pairs)
  object-read ms h pairs each (Whole (MapNode m)) t e = let p = map-inv MapDatum (pairs m) t e in rw p.2 (map_default (each m p.0 p.1))
  object-read ms h pairs each (RecordDraft names fs) t e = let p = map-inv RecordDatum (fields_value nodes (member_value ms nodes) fs) t e in rw p.2 (record_default (fields-read ms h fs p.0 p.1))
  object-read ms h pairs each d t e = absurd (let no : ⊥ = cc in no)

  key-read : (o : Ordering) (rest : Option json.Data) (d e : json.Data) → (rest ≡ Some e → Reads e (value_of e nodes)) → Reads d (value_of d nodes) → match_ordering o rest (Some d) rest ≡ Some e → Reads e (value_of e nodes)
  key-read Less rest d e others here is = others is
  key-read Greater rest d e others here is = others is
  key-read Equal rest d e others here is = subst (λ x. Reads x (value_of x nodes)) (let same : d ≡ e = cc in same) here

  -- ---- every value

  mutual
    unfolding value_of

    value-read : (v : json.Data) → Reads v (value_of v nodes)
    value-read null d t e = null-read d t e
    value-read (boolean b) d t e = boolean-read b d t e
    value-read (number x) d t e = number-read x d t e
    value-read (string s) d t e = text-read s d t e
    value-read (array vs) d t e = array-read vs (items_value vs nodes) (items-read vs) d t e
    value-read (object ms) d t e = object-read ms (all-read ms) (pairs_value ms nodes) (pairs-read ms) d t e

    items-read : (vs : Items) (m : ℕ) (es : Data) → items_value vs nodes m ≡ Some es → AreItems nodes m vs es
    items-read no_items m es e = subst (AreItems nodes m no_items) (let same : no_more ≡ es = cc in same) no_item
    items-read (item v vs) m es e =
        let p = then-inv (λ d. option_map (more d) (items_value vs nodes m)) (at_node nodes m (value_of v nodes)) es e in
        let q = map-inv (more p.0) (items_value vs nodes m) es p.2 in
        rw q.2 (one_item (node-read v (value_of v nodes) (value-read v) m p.0 p.1) (items-read vs m q.0 q.1))

    pairs-read : (ms : Members) (m : ℕ) (ps : Pairs) → pairs_value ms nodes m ≡ Some ps → ArePairs nodes m ms ps
    pairs-read no_members m ps e = subst (ArePairs nodes m no_members) (let same : no_pairs ≡ ps = cc in same) no_pair
    pairs-read (member k v ms) m ps e =
        let p = then-inv (λ d. option_map (pair k d) (pairs_value ms nodes m)) (at_node nodes m (value_of v nodes)) ps e in
        let q = map-inv (pair k p.0) (pairs_value ms nodes m) ps p.2 in
        rw q.2 (one_pair (node-read v (value_of v nodes) (value-read v) m p.0 p.1) (pairs-read ms m q.0 q.1))

    all-read : (ms : Members) → AllRead ms
    all-read no_members k d e = absurd (none_some d e)
    all-read (member l v ms) k d e = key-read (slice_cmp nat_cmp k l) (get_member k ms) v d (all-read ms k d) (value-read v) e

  pub default-read : (n : ℕ) (v : json.Data) (t : Datum) → default_of nodes n v ≡ Some t → IsDefaultAt nodes n v t
  default-read n v t e = node-read v (value_of v nodes) (value-read v) n t e
