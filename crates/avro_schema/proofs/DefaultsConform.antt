-- What a value is as a default conforms to the finished node.
use Rattle.std.proofs.Common.{◌≡◌, ℕ, List, ◌∷◌, Option, Some, IfSome, slice_get, refl, sym, subst}
use Rattle.std.specs.Ordering.{nat_cmp, match_ordering}
use Rattle.std.specs.Cmp.Lexicographic.{slice_cmp}
use Rattle.std.specs.declared.cmp.Ordering.{Ordering}
use Rattle.std.specs.declared.cmp.Ordering.TheVariants.{Less, Equal, Greater}
use Rattle.std.proofs.lemmas.Option.{slice_get_within}
use Rattle.serde_json.specs.Data as json
use Rattle.serde_json.specs.Data.{Items, Members, no_members, member}
use Rattle.serde_json.specs.Find.{get_member}
use Rattle.spec_avro.specs.Conforming.{Conforms, ConformAll, ConformPairs, ConformsEach}
use Rattle.spec_avro.specs.Datum.{Datum, Data, Pairs}
use Rattle.spec_avro.specs.Node.{Node, NullNode, BooleanNode, IntNode, LongNode, BytesNode, TextNode, FixedNode, EnumNode, ArrayNode, MapNode, UnionNode}
use Rattle.spec_schema.specs.DefaultData.{AreFields, AreItems, ArePairs, IsDefaultAt, IsDefaultOf, array_default, boolean_default, by_first, by_type, bytes_default, enum_default, fixed_default, int_default, long_default, map_default, no_field, no_item, no_pair, null_default, one_field, one_item, one_pair, record_default, text_default}
use Rattle.spec_schema.specs.Defaults.{all_defaults, default_of, field_default, field_defaults, fields_with, node_defaults, node_with, nodes_with}
use Rattle.spec_schema.specs.Draft.{Draft, Whole, RecordDraft, DraftField}
use Rattle.avro_schema.proofs.DefaultsRead.{default-read}
use Rattle.avro_schema.proofs.FinishedNodes.{in-row, finished-at}
use Rattle.avro_schema.proofs.ValueTexts.{HasUtf8, ItemsHaveUtf8, MembersHaveUtf8}

-- ---- what is at a key

one-utf8 : (o : Ordering) (rest : Option json.Data) (d : json.Data) → IfSome rest HasUtf8 → HasUtf8 d → IfSome (match_ordering o rest (Some d) rest) HasUtf8
one-utf8 Less rest d f h = f
one-utf8 Equal rest d f h = h
one-utf8 Greater rest d f h = f

get-utf8 : (k : List ℕ) (ms : Members) → MembersHaveUtf8 ms → IfSome (get_member k ms) HasUtf8
get-utf8 k no_members h = tt
get-utf8 k (member l d ms) h = one-utf8 (slice_cmp nat_cmp k l) (get_member k ms) d (get-utf8 k ms h.2) h.1

found-utf8 : (k : List ℕ) (ms : Members) (d : json.Data) → get_member k ms ≡ Some d → MembersHaveUtf8 ms → HasUtf8 d
found-utf8 k ms d at h = subst (λ o. IfSome o HasUtf8) at (get-utf8 k ms h)

-- ---- by the drafts, and the nodes that they are finished to

module _ (drafts : List Draft) (ns : List Node)
    (finished : (n : ℕ) (d : Draft) → slice_get drafts n ≡ Some d → (defaults : List (Option Datum)) × (node_defaults drafts d ≡ Some defaults) × (slice_get ns n ≡ Some (node_with d defaults))) where
  whole : (n : ℕ) (k : Node) → slice_get drafts n ≡ Some (Whole k) → slice_get ns n ≡ Some k
  whole n k at = (finished n (Whole k) at).2

  mutual
    conforms-at : {n : ℕ} {v : json.Data} {t : Datum} → IsDefaultAt drafts n v t → HasUtf8 v → Conforms ns n t
    conforms-at (by_type {n = n} at of) utf8 = conforms-of of n at utf8
    conforms-at (by_first {n = n} {m = m} {ms = ms} at first of) utf8 = (m ∷ ms, whole n (UnionNode (m ∷ ms)) at, m, refl, conforms-of of m first utf8)

    conforms-of : {d : Draft} {v : json.Data} {t : Datum} → IsDefaultOf drafts d v t → (n : ℕ) → slice_get drafts n ≡ Some d → HasUtf8 v → Conforms ns n t
    conforms-of null_default n at utf8 = whole n NullNode at
    conforms-of boolean_default n at utf8 = whole n BooleanNode at
    conforms-of (int_default i bits) n at utf8 = (whole n IntNode at, bits)
    conforms-of (long_default i bits) n at utf8 = (whole n LongNode at, bits)
    conforms-of (bytes_default b) n at utf8 = whole n BytesNode at
    conforms-of text_default n at utf8 = (whole n TextNode at, utf8)
    conforms-of (fixed_default {names = names} {size = size} {s = s} b len) n at utf8 = (names, subst (λ k. slice_get ns n ≡ Some (FixedNode names k)) (sym len) (whole n (FixedNode names size) at))
    conforms-of (enum_default {names = names} {symbols = symbols} {default = default} {s = s} {n = k} there) n at utf8 = (names, symbols, default, whole n (EnumNode names symbols default) at, slice_get_within symbols k s there)
    conforms-of (array_default {n = m} items) n at utf8 = (m, whole n (ArrayNode m) at, conform-all items utf8)
    conforms-of (map_default {n = m} pairs) n at utf8 = (m, whole n (MapNode m) at, conform-pairs pairs utf8)
    conforms-of (record_default {names = names} {fs = fs} fields) n at utf8 =
        let f = finished n (RecordDraft names fs) at in
        (names, fields_with fs f.0, f.2, conforms-each fields utf8 f.0 f.1)

    conform-all : {n : ℕ} {ds : Items} {row : Data} → AreItems drafts n ds row → ItemsHaveUtf8 ds → ConformAll ns n row
    conform-all no_item utf8 = tt
    conform-all (one_item first rest) utf8 = (conforms-at first utf8.0, conform-all rest utf8.1)

    conform-pairs : {n : ℕ} {ms : Members} {pairs : Pairs} → ArePairs drafts n ms pairs → MembersHaveUtf8 ms → ConformPairs ns n pairs
    conform-pairs no_pair utf8 = tt
    conform-pairs (one_pair first rest) utf8 = (utf8.0, conforms-at first utf8.1, conform-pairs rest utf8.2)

    conforms-each : {ms : Members} {fs : List DraftField} {row : Data} → AreFields drafts ms fs row → MembersHaveUtf8 ms → (defaults : List (Option Datum)) → field_defaults drafts fs ≡ Some defaults → ConformsEach ns (fields_with fs defaults) row
    conforms-each no_field utf8 defaults e = tt
    conforms-each (one_field {ms = ms} {f = f} {fs = fs} {d = d} at first rest) utf8 defaults e =
        let r = in-row (field_default drafts f.node f.default) (field_defaults drafts fs) defaults e in
        rw r.all_are (conforms-at first (found-utf8 f.name ms d at utf8), conforms-each rest utf8 r.tail r.rest_is)

-- the datum that a value with texts in UTF-8 is by a node conforms to the finished node
pub default-conforms : (drafts : List Draft) (all : List (List (Option Datum))) → all_defaults drafts drafts ≡ Some all
    → (n : ℕ) (v : json.Data) (t : Datum) → default_of drafts n v ≡ Some t → HasUtf8 v → Conforms (nodes_with drafts all) n t
default-conforms drafts all read n v t e utf8 = conforms-at drafts (nodes_with drafts all) (finished-at drafts drafts all read) (default-read drafts n v t e) utf8
