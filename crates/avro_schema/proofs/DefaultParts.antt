-- The data of values with parts, one part after another, and by each kind of node.
use Rattle.std.proofs.Common.{◌≡◌, ℕ, zero, suc, ◌+◌, ◌<◌, ◌≤◌, List, [], ◌∷◌, ◌++◌, length, drop, get_or, map, true, false, Option, Some, None, option_map, option_and_then, Ok, Err, String, string_bytes, slice_get, is_some, refl, sym, ap, ◌∙◌, arith, Bool}
use Rattle.std.specs.Global.{Global, Vec}
use Rattle.std.specs.Option.{ok_or}
use Rattle.std.specs.Ordering.{nat_cmp, match_ordering}
use Rattle.std.specs.Cmp.Lexicographic.{slice_cmp}
use Rattle.std.specs.declared.cmp.Ordering.{Ordering}
use Rattle.std.specs.declared.cmp.Ordering.TheVariants.{Less, Equal, Greater}
use Rattle.std.proofs.lemmas.Option.{slice_get-map, slice_get_read}
use Rattle.std.proofs.Math.ListN.{drop_of_length-le}
use Rattle.serde_json.specs.Data as json
use Rattle.serde_json.specs.Data.{array, object, Items, Members, no_members, member, depth, members_depth}
use Rattle.serde_json.specs.Find.{get, get_member, as_array, as_object}
use Rattle.serde_json.specs.View.{view, items_view, members_view}
use Rattle.serde_json.specs.declared.value.Value.{Value}
use Rattle.avro_types.specs.declared.datum.Datum as rust
use Rattle.avro_schema_names.specs.declared.draft.Draft as rust_draft
use Rattle.avro_schema_names.specs.declared.draft.DraftField as rust_field
use Rattle.spec_schema.specs.declared.schema_error.SchemaError.{SchemaError}
use Rattle.spec_schema.specs.declared.schema_error.SchemaError.TheVariants.{BadDefault}
use Rattle.avro_types.specs.declared.kind.Kind.{Kind}
use Rattle.avro_types.specs.declared.kind.Kind.TheVariants as kinds
use Rattle.spec_avro.specs.Datum.{Datum, ArrayDatum, MapDatum, RecordDatum, UnionDatum, Pairs, more, pair}
use Rattle.avro_types.specs.Datum.{datum_of, data_of, pairs_of}
use Rattle.spec_schema.specs.Defaults.{Reading, by_first, at_node, array_value, object_value, leaf_value, default_of, fields_value, items_value, pairs_value, member_value, value_of}
use Rattle.spec_schema.specs.Draft.{Draft, Whole, RecordDraft, DraftField}
use Rattle.avro_schema_names.specs.Draft.{HasFewSymbols, HaveFewSymbols, draft_field_of, draft_of, drafts_of}
use Rattle.spec_avro.specs.Node.{Node, ArrayNode, MapNode, UnionNode, Names}
use Rattle.avro_types.specs.Node.{node_of}
use Rattle.avro_schema.proofs.DefaultValues.{first_datum, first_pair, before-data, before-pairs}
use Rattle.avro_schema.proofs.OneByOne.{before, next, one-on, one-fails}

-- ---- nodes

pub draft-at : (ds : List rust_draft.Draft) (n : ℕ) (d : rust_draft.Draft) → n < length ds → d ≡ get_or ds n d → slice_get (drafts_of ds) n ≡ Some (draft_of d)
draft-at ds n d lt is = slice_get-map draft_of ds n ∙ ap (option_map draft_of) (slice_get_read ds (length ds) n d refl lt is)

pub few-at : (ds : List Draft) (n : ℕ) (d : Draft) → HaveFewSymbols ds → slice_get ds n ≡ Some d → HasFewSymbols d
few-at [] n d few is = absurd (let no : ⊥ = cc in no)
few-at (x ∷ ds) zero d few is = let same : x ≡ d = cc in rw (← same) few.0
few-at (x ∷ ds) (suc n) d few is = few-at ds n d few.1 is

-- ---- an option as a result

pub told-map : {E L : Type 0} (f : E → L) (o : Option E) (d : E) → ok_or o BadDefault ≡ Ok d → ok_or (option_map f o) BadDefault ≡ Ok (f d)
told-map f None d e = absurd (let no : ⊥ = cc in no)
told-map f (Some x) d e = let same : x ≡ d = cc in rw same refl

pub fault-map : {E L : Type 0} (f : E → L) (o : Option E) (e : SchemaError) → ok_or o BadDefault ≡ Err e → ok_or (option_map f o) BadDefault ≡ Err e
fault-map f None e h = let same : BadDefault ≡ e = cc in rw same refl
fault-map f (Some x) e h = absurd (let no : ⊥ = cc in no)

-- ---- one part after another

module _ (ds : List Draft) (n : ℕ) where
  items-steps : (v : Value) (rest : List Value) → items_value (items_view (v ∷ rest)) ds n ≡ option_and_then (λ d. option_map (more d) (items_value (items_view rest) ds n)) (default_of ds n (view v))
  unfolding value_of
  items-steps v rest = refl

  module _ (vs : List Value) (i : ℕ) (v : Value) (lt : i < length vs) (is : v ≡ get_or vs i v) (front : List rust.Datum) where
    pub items-on : (d : rust.Datum) → ok_or (default_of ds n (view v)) BadDefault ≡ Ok (datum_of d)
        → option_map (before first_datum front) (items_value (items_view (drop i vs)) ds n) ≡ option_map (before first_datum (front ++ d ∷ [])) (items_value (items_view (drop (i + 1) vs)) ds n)
    items-on d told = rw (next vs i v lt is) (one-on (λ v. default_of ds n (view v)) (λ v d. more d) (λ vs. items_value (items_view vs) ds n) first_datum items-steps front v (drop (i + 1) vs) d (datum_of d) refl told)

    pub items-fail : (e : SchemaError) → ok_or (default_of ds n (view v)) BadDefault ≡ Err e
        → ok_or (option_map (before first_datum front) (items_value (items_view (drop i vs)) ds n)) BadDefault ≡ Err e
    items-fail e told = rw (next vs i v lt is) (one-fails (λ v. default_of ds n (view v)) (λ v d. more d) (λ vs. items_value (items_view vs) ds n) first_datum items-steps front v (drop (i + 1) vs) e told)

  pub items-end : (vs : List Value) (i : ℕ) → length vs ≤ i → (front : List rust.Datum) → option_map (before first_datum front) (items_value (items_view (drop i vs)) ds n) ≡ Some (data_of front)
  unfolding value_of
  items-end vs i le front = rw (drop_of_length-le vs le) (ap Some (before-data front))

-- ---- the members of an object

abbrev with_key : String Global × Value → Datum → Pairs → Pairs
with_key m d ps = pair (string_bytes m.0) d ps

module _ (ds : List Draft) (n : ℕ) where
  pairs-steps : (m : String Global × Value) (rest : List (String Global × Value)) → pairs_value (members_view (m ∷ rest)) ds n ≡ option_and_then (λ d. option_map (with_key m d) (pairs_value (members_view rest) ds n)) (default_of ds n (view m.1))
  unfolding value_of
  pairs-steps m rest = refl

  module _ (m : String Global × Value) (rest whole : List (String Global × Value)) (is : whole ≡ m ∷ rest) (front : List (String Global × rust.Datum)) where
    pub pairs-on : (k : String Global) (d : rust.Datum) → string_bytes k ≡ string_bytes m.0 → ok_or (default_of ds n (view m.1)) BadDefault ≡ Ok (datum_of d)
        → option_map (before first_pair front) (pairs_value (members_view whole) ds n) ≡ option_map (before first_pair (front ++ (k, d) ∷ [])) (pairs_value (members_view rest) ds n)
    pairs-on k d same told = rw is (one-on (λ m. default_of ds n (view m.1)) with_key (λ ms. pairs_value (members_view ms) ds n) first_pair pairs-steps front m rest (k, d) (datum_of d) (ap (λ s ps. pair s (datum_of d) ps) (sym same)) told)

    pub pairs-fail : (e : SchemaError) → ok_or (default_of ds n (view m.1)) BadDefault ≡ Err e
        → ok_or (option_map (before first_pair front) (pairs_value (members_view whole) ds n)) BadDefault ≡ Err e
    pairs-fail e told = rw is (one-fails (λ m. default_of ds n (view m.1)) with_key (λ ms. pairs_value (members_view ms) ds n) first_pair pairs-steps front m rest e told)

  pub pairs-end : (front : List (String Global × rust.Datum)) → option_map (before first_pair front) (pairs_value (members_view []) ds n) ≡ Some (pairs_of front)
  unfolding value_of
  pairs-end front = ap Some (before-pairs front)

-- ---- the fields of a record

at_key : (o : Ordering) (ds : List Draft) (d : json.Data) (r : Option json.Data) (s : Option Reading) → s ≡ option_map (λ e. value_of e ds) r → match_ordering o s (Some (value_of d ds)) s ≡ option_map (λ e. value_of e ds) (match_ordering o r (Some d) r)
at_key Less ds d r s e = e
at_key Equal ds d r s e = refl
at_key Greater ds d r s e = e

pub member_value-get : (ms : Members) (ds : List Draft) (k : List ℕ) → member_value ms ds k ≡ option_map (λ e. value_of e ds) (get_member k ms)
unfolding value_of
member_value-get no_members ds k = refl
member_value-get (member l d ms) ds k = at_key (slice_cmp nat_cmp k l) ds d (get_member k ms) (member_value ms ds k) (member_value-get ms ds k)

fields_value-same : (ds : List Draft) (f g : List ℕ → Option Reading) → ((k : List ℕ) → f k ≡ g k) → (fs : List DraftField) → fields_value ds f fs ≡ fields_value ds g fs
fields_value-same ds f g same [] = refl
fields_value-same ds f g same (x ∷ fs) = rw (same x.name, fields_value-same ds f g same fs) refl

-- what a value gives at a key
abbrev pub value_at : List Draft → json.Data → List ℕ → Option Reading
value_at ds v k = option_map (λ d. value_of d ds) (get k v)

pub record-value : (v : json.Data) → true ≡ is_some (as_object v) → (ds : List Draft) (names : Names) (fs : List DraftField) → value_of v ds (RecordDraft names fs) ≡ option_map RecordDatum (fields_value ds (value_at ds v) fs)
unfolding value_of
record-value (object ms) is ds names fs = ap (option_map RecordDatum) (fields_value-same ds (member_value ms ds) (value_at ds (object ms)) (member_value-get ms ds) fs)
record-value v is ds names fs = absurd (let no : ⊥ = cc in no)

pub record-other : (v : json.Data) → false ≡ is_some (as_object v) → (ds : List Draft) (names : Names) (fs : List DraftField) → value_of v ds (RecordDraft names fs) ≡ None
unfolding value_of
record-other (object ms) not ds names fs = absurd (let no : ⊥ = cc in no)
record-other v not ds names fs = refl

module _ (ds : List Draft) (v : json.Data) where
  fields-steps : (f : rust_field.DraftField) (rest : List rust_field.DraftField) → fields_value ds (value_at ds v) (map draft_field_of (f ∷ rest))
      ≡ option_and_then (λ d. option_map (more d) (fields_value ds (value_at ds v) (map draft_field_of rest))) (option_and_then (at_node ds f.node) (value_at ds v (string_bytes f.name)))
  fields-steps f rest = refl

  module _ (fs : List rust_field.DraftField) (i : ℕ) (f : rust_field.DraftField) (lt : i < length fs) (is : f ≡ get_or fs i f) (front : List rust.Datum) (d : json.Data) (found : get (string_bytes f.name) v ≡ Some d) where
    here : option_and_then (at_node ds f.node) (value_at ds v (string_bytes f.name)) ≡ default_of ds f.node d
    here = rw found refl

    pub fields-on : (e : rust.Datum) → ok_or (default_of ds f.node d) BadDefault ≡ Ok (datum_of e)
        → option_map (before first_datum front) (fields_value ds (value_at ds v) (map draft_field_of (drop i fs))) ≡ option_map (before first_datum (front ++ e ∷ [])) (fields_value ds (value_at ds v) (map draft_field_of (drop (i + 1) fs)))
    fields-on e told = rw (next fs i f lt is) (one-on (λ f. option_and_then (at_node ds f.node) (value_at ds v (string_bytes f.name))) (λ f d. more d) (λ fs. fields_value ds (value_at ds v) (map draft_field_of fs)) first_datum fields-steps front f (drop (i + 1) fs) e (datum_of e) refl (rw here told))

    pub fields-fail : (e : SchemaError) → ok_or (default_of ds f.node d) BadDefault ≡ Err e
        → ok_or (option_map (before first_datum front) (fields_value ds (value_at ds v) (map draft_field_of (drop i fs)))) BadDefault ≡ Err e
    fields-fail e told = rw (next fs i f lt is) (one-fails (λ f. option_and_then (at_node ds f.node) (value_at ds v (string_bytes f.name))) (λ f d. more d) (λ fs. fields_value ds (value_at ds v) (map draft_field_of fs)) first_datum fields-steps front f (drop (i + 1) fs) e (rw here told))

  pub fields-end : (fs : List rust_field.DraftField) (i : ℕ) → length fs ≤ i → (front : List rust.Datum) → option_map (before first_datum front) (fields_value ds (value_at ds v) (map draft_field_of (drop i fs))) ≡ Some (data_of front)
  fields-end fs i le front = rw (drop_of_length-le fs le) (ap Some (before-data front))

-- ---- each kind of node

pub union-value : (ds : List Draft) (reading : Reading) (members : List ℕ) (m : ℕ) (d : Draft) → Some m ≡ slice_get members 0 → slice_get ds m ≡ Some d → by_first ds reading (Some (Whole (UnionNode members))) ≡ option_map (UnionDatum 0) (reading d)
union-value ds reading [] m d is at = absurd (let no : ⊥ = cc in no)
union-value ds reading (x ∷ members) m d is at = let same : m ≡ x = cc in rw (← same, at) refl

pub whole-plain : (k : Kind) → ((members : Vec ℕ) → k ≡ kinds.Union members → ⊥) → (ds : List Draft) (reading : Reading) → by_first ds reading (Some (Whole (node_of k))) ≡ reading (Whole (node_of k))
whole-plain (kinds.Union members) not ds reading = absurd (not members refl)
whole-plain k not ds reading = refl

abbrev is_array_or_map : Option Node → Bool
is_array_or_map (Some (ArrayNode item)) = true
is_array_or_map (Some (MapNode value)) = true
is_array_or_map _ = false

pub whole-leaf : (k : Kind) → ((n : ℕ) → k ≡ kinds.Array n → ⊥) → ((n : ℕ) → k ≡ kinds.Map n → ⊥) → is_array_or_map (Some (node_of k)) ≡ false
whole-leaf (kinds.Array n) not_array not_map = absurd (not_array n refl)
whole-leaf (kinds.Map n) not_array not_map = absurd (not_map n refl)
whole-leaf k not_array not_map = refl

no-array : (items : ℕ → Option _) (n : Node) → is_array_or_map (Some n) ≡ false → array_value items (Whole n) ≡ None
no-array items (ArrayNode n) leaf = absurd (let no : ⊥ = cc in no)
no-array items n leaf = refl

no-map : (ds : List Draft) (value : List ℕ → Option Reading) (pairs : ℕ → Option Pairs) (n : Node) → is_array_or_map (Some n) ≡ false → object_value ds value pairs (Whole n) ≡ None
no-map ds value pairs (MapNode n) leaf = absurd (let no : ⊥ = cc in no)
no-map ds value pairs v leaf = refl

pub leaf-value : (v : json.Data) (ds : List Draft) (n : Node) → is_array_or_map (Some n) ≡ false → value_of v ds (Whole n) ≡ leaf_value v (Whole n)
unfolding value_of
leaf-value (array es) ds n leaf = no-array (items_value es ds) n leaf
leaf-value (object ms) ds n leaf = no-map ds (member_value ms ds) (pairs_value ms ds) n leaf
leaf-value v ds n leaf = refl

pub array-value : (v : json.Data) (es : Items) → Some es ≡ as_array v → (ds : List Draft) (n : ℕ) → value_of v ds (Whole (ArrayNode n)) ≡ option_map ArrayDatum (items_value es ds n)
unfolding value_of
array-value (array fs) es is ds n = let same : es ≡ fs = cc in rw same refl
array-value v es is ds n = absurd (let no : ⊥ = cc in no)

pub array-other : (v : json.Data) → None ≡ as_array v → (ds : List Draft) (n : ℕ) → value_of v ds (Whole (ArrayNode n)) ≡ None
unfolding value_of
array-other (array es) not ds n = absurd (let no : ⊥ = cc in no)
array-other v not ds n = refl

pub map-value : (v : json.Data) (ms : Members) → Some ms ≡ as_object v → (ds : List Draft) (n : ℕ) → value_of v ds (Whole (MapNode n)) ≡ option_map MapDatum (pairs_value ms ds n)
unfolding value_of
map-value (object ns) ms is ds n = let same : ms ≡ ns = cc in rw same refl
map-value v ms is ds n = absurd (let no : ⊥ = cc in no)

pub map-other : (v : json.Data) → None ≡ as_object v → (ds : List Draft) (n : ℕ) → value_of v ds (Whole (MapNode n)) ≡ None
unfolding value_of
map-other (object ms) not ds n = absurd (let no : ⊥ = cc in no)
map-other v not ds n = refl

pub members-depth : (whole : List (String Global × Value)) (m : String Global × Value) (rest : List (String Global × Value)) → whole ≡ m ∷ rest → (members_depth (members_view rest) ≤ members_depth (members_view whole)) × (depth (view m.1) ≤ members_depth (members_view whole))
members-depth whole m rest is = rw is (omega arith, omega arith)
