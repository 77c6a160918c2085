-- Trees of data as ghost values, one to one, so that a proof can tell two of them apart.
use Rattle.std.specs.Prelude.{◌≡◌, ◌==◌, ℕ, ℤ, pos, negsuc, List, [], ◌∷◌, Bool, true, false, if◌then◌else◌, refl}
use Rattle.std.proofs.Common.{sym, ap, ◌∙◌}
use base.Stored.{Gv, gnil, gnum, gcons, Coded}
use Rattle.spec_avro.specs.Datum.{Datum, Data, Pairs, NullDatum, BooleanDatum, IntDatum, LongDatum, BytesDatum, TextDatum, FixedDatum, EnumDatum, ArrayDatum, MapDatum, UnionDatum, RecordDatum, no_more, more, no_pairs, pair}

code_whole : ℤ → Gv
code_whole (pos n) = gcons gnil (gnum n)
code_whole (negsuc n) = gcons (gnum 1) (gnum n)

whole_back : Gv → ℤ
whole_back (gcons gnil (gnum n)) = pos n
whole_back (gcons (gnum k) (gnum n)) = negsuc n
whole_back _ = pos 0

whole_same : (n : ℤ) → whole_back (code_whole n) ≡ n
unfolding code_whole whole_back
whole_same (pos n) = refl
whole_same (negsuc n) = refl

code_bytes : List ℕ → Gv
code_bytes [] = gnil
code_bytes (b ∷ bs) = gcons (gnum b) (code_bytes bs)

bytes_back : Gv → List ℕ
bytes_back (gcons (gnum b) g) = b ∷ bytes_back g
bytes_back _ = []

bytes_same : (bs : List ℕ) → bytes_back (code_bytes bs) ≡ bs
unfolding code_bytes bytes_back
bytes_same [] = refl
bytes_same (b ∷ bs) = ap (λ (x : List ℕ). b ∷ x) (bytes_same bs)

code_bool : Bool → Gv
code_bool true = gnil
code_bool false = gnum 0

bool_back : Gv → Bool
bool_back gnil = true
bool_back _ = false

bool_same : (b : Bool) → bool_back (code_bool b) ≡ b
unfolding code_bool bool_back
bool_same true = refl
bool_same false = refl

num_back : Gv → ℕ
num_back (gnum n) = n
num_back _ = 0

mutual
  pub code_datum : Datum → Gv
  code_datum NullDatum = gcons (gnum 0) gnil
  code_datum (BooleanDatum b) = gcons (gnum 1) (code_bool b)
  code_datum (IntDatum n) = gcons (gnum 2) (code_whole n)
  code_datum (LongDatum n) = gcons (gnum 3) (code_whole n)
  code_datum (BytesDatum bytes) = gcons (gnum 4) (code_bytes bytes)
  code_datum (TextDatum text) = gcons (gnum 5) (code_bytes text)
  code_datum (FixedDatum bytes) = gcons (gnum 6) (code_bytes bytes)
  code_datum (EnumDatum n) = gcons (gnum 7) (gnum n)
  code_datum (ArrayDatum ds) = gcons (gnum 8) (code_data ds)
  code_datum (MapDatum ps) = gcons (gnum 9) (code_pairs ps)
  code_datum (UnionDatum n d) = gcons (gcons gnil (gnum n)) (code_datum d)
  code_datum (RecordDatum ds) = gcons (gnum 10) (code_data ds)

  code_data : Data → Gv
  code_data no_more = gnil
  code_data (more d ds) = gcons (code_datum d) (code_data ds)

  code_pairs : Pairs → Gv
  code_pairs no_pairs = gnil
  code_pairs (pair k d ps) = gcons (code_bytes k) (gcons (code_datum d) (code_pairs ps))

-- the datum of a tag, where it is no union
abbrev tagged : ℕ → Gv → Data → Pairs → Datum
tagged k g ds ps =
    if k == 0 then NullDatum else
    if k == 1 then BooleanDatum (bool_back g) else
    if k == 2 then IntDatum (whole_back g) else
    if k == 3 then LongDatum (whole_back g) else
    if k == 4 then BytesDatum (bytes_back g) else
    if k == 5 then TextDatum (bytes_back g) else
    if k == 6 then FixedDatum (bytes_back g) else
    if k == 7 then EnumDatum (num_back g) else
    if k == 8 then ArrayDatum ds else
    if k == 9 then MapDatum ps else RecordDatum ds

mutual
  pub datum_back : Gv → Datum
  datum_back (gcons (gnum k) g) = tagged k g (data_back g) (pairs_back g)
  datum_back (gcons (gcons gnil (gnum n)) g) = UnionDatum n (datum_back g)
  datum_back _ = NullDatum

  data_back : Gv → Data
  data_back (gcons d ds) = more (datum_back d) (data_back ds)
  data_back _ = no_more

  pairs_back : Gv → Pairs
  pairs_back (gcons k (gcons d ps)) = pair (bytes_back k) (datum_back d) (pairs_back ps)
  pairs_back _ = no_pairs

mutual
  unfolding code_datum datum_back code_data data_back code_pairs pairs_back num_back

  pub datum_same : (d : Datum) → datum_back (code_datum d) ≡ d
  datum_same NullDatum = refl
  datum_same (BooleanDatum b) = ap BooleanDatum (bool_same b)
  datum_same (IntDatum n) = ap IntDatum (whole_same n)
  datum_same (LongDatum n) = ap LongDatum (whole_same n)
  datum_same (BytesDatum bytes) = ap BytesDatum (bytes_same bytes)
  datum_same (TextDatum text) = ap TextDatum (bytes_same text)
  datum_same (FixedDatum bytes) = ap FixedDatum (bytes_same bytes)
  datum_same (EnumDatum n) = refl
  datum_same (ArrayDatum ds) = ap ArrayDatum (data_same ds)
  datum_same (MapDatum ps) = ap MapDatum (pairs_same ps)
  datum_same (UnionDatum n d) = ap (UnionDatum n) (datum_same d)
  datum_same (RecordDatum ds) = ap RecordDatum (data_same ds)

  data_same : (ds : Data) → data_back (code_data ds) ≡ ds
  data_same no_more = refl
  data_same (more d ds) =
      ap (λ (x : Datum). more x (data_back (code_data ds))) (datum_same d) ∙ ap (more d) (data_same ds)

  pairs_same : (ps : Pairs) → pairs_back (code_pairs ps) ≡ ps
  pairs_same no_pairs = refl
  pairs_same (pair k d ps) =
      ap (λ (x : List ℕ). pair x (datum_back (code_datum d)) (pairs_back (code_pairs ps))) (bytes_same k)
      ∙ ap (λ (x : Datum). pair k x (pairs_back (code_pairs ps))) (datum_same d)
      ∙ ap (pair k d) (pairs_same ps)

abbrev pub datum_coded : Coded Datum
datum_coded = record { code = code_datum; inj = λ x y p. sym (datum_same x) ∙ ap datum_back p ∙ datum_same y }
