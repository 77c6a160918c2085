-- The texts of what a default is by a node are no longer than those of its value, and its parts no more.
use Rattle.std.proofs.Common.{◌≡◌, ℕ, zero, suc, ◌*◌, ◌+◌, ◌-◌, ◌≤◌, List, [], ◌∷◌, length, Some, arith}
use Rattle.std.specs.Str.{chars, chars_after, continuation_len, lead_bits}
use Rattle.serde_json.specs.Data as json
use Rattle.serde_json.specs.Data.{Items, Members}
use Rattle.spec_avro.specs.Datum.{Datum, Data, Pairs, how_many, how_many_pairs}
use Rattle.spec_avro.specs.Sizes.{HasSizesWithin, HaveSizesWithin, HavePairsWithin}
use Rattle.spec_schema.specs.DefaultData.{AreFields, AreItems, ArePairs, IsDefaultAt, IsDefaultOf, array_default, boolean_default, by_first, by_type, bytes_default, enum_default, fixed_default, int_default, long_default, map_default, no_field, no_item, no_pair, null_default, one_field, one_item, one_pair, record_default, text_default}
use Rattle.spec_schema.specs.Defaults.{default_of}
use Rattle.spec_schema.specs.Draft.{Draft, DraftField}
use Rattle.avro_schema.proofs.DefaultsRead.{default-read}
use Rattle.avro_schema.proofs.ReadSizes.{HasDataWithin, HaveItemsWithin, HaveMembersWithin, items_in, members_in}
use Rattle.avro_schema.proofs.WalkSizes.{found-within}

-- ---- a text has no more characters than bytes

chars_after-short : (n c : ℕ) (bs : List ℕ) → length (chars_after n c bs) ≤ suc (length bs)
chars_after-short zero c [] = omega arith
chars_after-short zero c (b ∷ bs) = omega (arith, chars_after-short (continuation_len b) (lead_bits b) bs)
chars_after-short (suc n) c [] = omega arith
chars_after-short (suc n) c (b ∷ bs) = omega (arith, chars_after-short n (c * 64 + (b - 128)) bs)

chars-short : (s : List ℕ) → length (chars s) ≤ length s
unfolding chars
chars-short [] = omega arith
chars-short (b ∷ bs) = chars_after-short (continuation_len b) (lead_bits b) bs

-- ---- values

module _ (most : ℕ) (drafts : List Draft) where
  mutual
    within-at : {n : ℕ} {v : json.Data} {t : Datum} → IsDefaultAt drafts n v t → HasDataWithin most v → HasSizesWithin most most t
    within-at (by_type at of) h = within-of of h
    within-at (by_first at first of) h = within-of of h

    within-of : {d : Draft} {v : json.Data} {t : Datum} → IsDefaultOf drafts d v t → HasDataWithin most v → HasSizesWithin most most t
    within-of null_default h = tt
    within-of boolean_default h = tt
    within-of (int_default i bits) h = tt
    within-of (long_default i bits) h = tt
    within-of (bytes_default {s = s} b) h = let short : length (chars s) ≤ most = omega (arith, chars-short s, h) in short
    within-of text_default h = h
    within-of (fixed_default b len) h = tt
    within-of (enum_default at) h = tt
    within-of (array_default items) h = let all = items-within items h.1 in (omega (arith, all.0, h.0), all.1)
    within-of (map_default pairs) h = let all = pairs-within pairs h.1 in (omega (arith, all.0, h.0), all.1)
    within-of (record_default fields) h = fields-within fields h.1

    items-within : {n : ℕ} {ds : Items} {row : Data} → AreItems drafts n ds row → HaveItemsWithin most ds → (how_many row ≤ items_in ds) × HaveSizesWithin most most row
    items-within no_item h = (omega arith, tt)
    items-within (one_item first rest) h = let others = items-within rest h.1 in (omega (arith, others.0), (within-at first h.0, others.1))

    pairs-within : {n : ℕ} {ms : Members} {pairs : Pairs} → ArePairs drafts n ms pairs → HaveMembersWithin most ms → (how_many_pairs pairs ≤ members_in ms) × HavePairsWithin most most pairs
    pairs-within no_pair h = (omega arith, tt)
    pairs-within (one_pair first rest) h = let others = pairs-within rest h.2 in (omega (arith, others.0), (h.0, within-at first h.1, others.1))

    fields-within : {ms : Members} {fs : List DraftField} {row : Data} → AreFields drafts ms fs row → HaveMembersWithin most ms → HaveSizesWithin most most row
    fields-within no_field h = tt
    fields-within (one_field {ms = ms} {f = f} {d = d} at first rest) h = (within-at first (found-within most f.name ms d at h), fields-within rest h)

  pub default-within : (n : ℕ) (v : json.Data) (t : Datum) → default_of drafts n v ≡ Some t → HasDataWithin most v → HasSizesWithin most most t
  default-within n v t e h = within-at (default-read drafts n v t e) h
