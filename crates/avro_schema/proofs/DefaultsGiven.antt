-- What a value is as a default is read as such, where the symbols of enums are distinct.
use Rattle.std.proofs.Common.{◌≡◌, ℕ, ℤ, pos, negsuc, ◌^◌, ◌<◌, List, [], ◌∷◌, length, true, Some, option_map, slice_get, refl, ap, ◌∙◌, nat_lt}
use Rattle.std.specs.List.{AllByRecursion, IsDistinct, list_all}
use Rattle.std.specs.Str.{bytes_eq, chars}
use Rattle.std.proofs.lemmas.Bool.{lt-ltb}
use Rattle.serde_json.specs.Data as json
use Rattle.serde_json.specs.Data.{Items, Members}
use Rattle.serde_json.specs.Find.{get_member}
use Rattle.spec_avro.specs.Conforming.{HasBits}
use Rattle.spec_avro.specs.Datum.{Datum, Data, Pairs, more}
use Rattle.avro_types.specs.Laws.Booleans.{same_number}
use Rattle.spec_avro.specs.Node.{EnumNode}
use Rattle.spec_schema.specs.DefaultData.{AreBytes, AreFields, AreItems, ArePairs, IsDefaultAt, IsDefaultOf, array_default, boolean_default, by_first as by_first_member, by_type, bytes_default, enum_default, fixed_default, int_default, long_default, map_default, no_field, no_item, no_pair, null_default, one_field, one_item, one_pair, record_default, text_default}
use Rattle.spec_schema.specs.Defaults.{Reading, by_first, bytes_in, default_of, fields_value, has_bits, items_value, member_value, pairs_value, value_of}
use Rattle.spec_schema.specs.Draft.{Draft, Whole, DraftField}
use Rattle.avro_schema.proofs.DefaultParts.{member_value-get}
use Rattle.avro_schema_names.proofs.SymbolPlaces.{place_at}

abbrev pub HasDistinctSymbols : Draft → Type 0
HasDistinctSymbols (Whole (EnumNode names symbols default)) = IsDistinct bytes_eq symbols
HasDistinctSymbols _ = Unit {0}

bits-is : (bits : ℕ) (z : ℤ) → HasBits bits z → has_bits bits z ≡ true
bits-is bits (pos n) lt = lt-ltb n (2 ^ bits) lt
bits-is bits (negsuc n) lt = lt-ltb n (2 ^ bits) lt

all_bytes-is : (cs : List ℕ) → AllByRecursion (λ c. c < 256) cs → list_all (λ c. nat_lt c 256) cs ≡ true
all_bytes-is [] h = refl
all_bytes-is (c ∷ cs) h = rw (lt-ltb c 256 h.0, all_bytes-is cs h.1) refl

bytes-is : (s : List ℕ) → AreBytes s → bytes_in s ≡ Some (chars s)
bytes-is s h = rw (all_bytes-is (chars s) h) refl

module _ (nodes : List Draft) (distinct : (n : ℕ) (d : Draft) → slice_get nodes n ≡ Some d → HasDistinctSymbols d) where
  plain : (d : Draft) (v : json.Data) (t : Datum) → IsDefaultOf nodes d v t → (reading : Reading) → by_first nodes reading (Some d) ≡ reading d
  plain d v t null_default reading = refl
  plain d v t boolean_default reading = refl
  plain d v t (int_default i b) reading = refl
  plain d v t (long_default i b) reading = refl
  plain d v t (bytes_default b) reading = refl
  plain d v t text_default reading = refl
  plain d v t (fixed_default b l) reading = refl
  plain d v t (enum_default at) reading = refl
  plain d v t (array_default items) reading = refl
  plain d v t (map_default pairs) reading = refl
  plain d v t (record_default fields) reading = refl

  field-given : (ms : Members) (f : DraftField) (fs : List DraftField) (d : json.Data) (t : Datum) (rest : Data) → get_member f.name ms ≡ Some d → default_of nodes f.node d ≡ Some t → fields_value nodes (member_value ms nodes) fs ≡ Some rest
      → fields_value nodes (member_value ms nodes) (f ∷ fs) ≡ Some (more t rest)
  field-given ms f fs d t rest at here others =
      let found : member_value ms nodes f.name ≡ Some (value_of d nodes) = member_value-get ms nodes f.name ∙ ap (option_map (λ e. value_of e nodes)) at in
      rw (found, here, others) refl

  mutual
    unfolding value_of

    pub default-given : {n : ℕ} {v : json.Data} {t : Datum} → IsDefaultAt nodes n v t → default_of nodes n v ≡ Some t
    default-given (by_type {n = n} {draft = draft} {d = d} {datum = datum} at of) = ap (by_first nodes (value_of d nodes)) at ∙ plain draft d datum of (value_of d nodes) ∙ value-given of (distinct n draft at)
    default-given (by_first_member {n = n} {m = m} {ms = ms} {draft = draft} {d = d} at first of) = rw (at, first, value-given of (distinct m draft first)) refl

    value-given : {d : Draft} {v : json.Data} {t : Datum} → IsDefaultOf nodes d v t → HasDistinctSymbols d → value_of v nodes d ≡ Some t
    value-given null_default h = refl
    value-given boolean_default h = refl
    value-given (int_default {z = z} i b) h = rw (i, bits-is 31 z b) refl
    value-given (long_default {z = z} i b) h = rw (i, bits-is 63 z b) refl
    value-given (bytes_default {s = s} b) h = rw (bytes-is s b) refl
    value-given text_default h = refl
    value-given (fixed_default {size = size} {s = s} b l) h = rw (bytes-is s b, same_number (length (chars s)) size l) refl
    value-given (enum_default {symbols = symbols} {s = s} {n = n} at) h = rw (place_at symbols n s h at) refl
    value-given (array_default items) h = rw (items-given items) refl
    value-given (map_default pairs) h = rw (pairs-given pairs) refl
    value-given (record_default fields) h = rw (fields-given fields) refl

    items-given : {n : ℕ} {ds : Items} {row : Data} → AreItems nodes n ds row → items_value ds nodes n ≡ Some row
    items-given no_item = refl
    items-given (one_item first rest) = rw (default-given first, items-given rest) refl

    pairs-given : {n : ℕ} {ms : Members} {pairs : Pairs} → ArePairs nodes n ms pairs → pairs_value ms nodes n ≡ Some pairs
    pairs-given no_pair = refl
    pairs-given (one_pair first rest) = rw (default-given first, pairs-given rest) refl

    fields-given : {ms : Members} {fs : List DraftField} {row : Data} → AreFields nodes ms fs row → fields_value nodes (member_value ms nodes) fs ≡ Some row
    fields-given no_field = refl
    fields-given (one_field {ms = ms} {f = f} {fs = fs} {d = d} {datum = datum} {rest = rest} at first others) = field-given ms f fs d datum rest at (default-given first) (fields-given others)
