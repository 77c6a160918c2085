-- Which data are written as no bytes.
use Rattle.std.proofs.Common.{◌≡◌, ℕ, suc, ◌<◌, Bool, true, false, List, ◌++◌, length, drop, get_or, pos, refl, sym, ap, ◌∙◌, arith}
use Rattle.std.specs.Prelude.{◌==◌}
use Rattle.std.proofs.lemmas.List.{length-append}
use Rattle.spec_avro.specs.Shortest.{shortest}
use Rattle.spec_avro.specs.Written.{after_length}
use Rattle.avro_types.specs.declared.datum.Datum as rust
use Rattle.spec_avro.specs.Datum.{Datum, NullDatum, BooleanDatum, IntDatum, LongDatum, BytesDatum, TextDatum, FixedDatum, EnumDatum, ArrayDatum, MapDatum, UnionDatum, RecordDatum}
use Rattle.avro_types.specs.Datum.{data_of, datum_of}
use Rattle.avro_datum.proofs.Written.{written_from}
use Rattle.spec_avro.specs.Writing.{written, written_data}
use Rattle.program_definition.proofs.GoodWrites.{some_shortest}

some_front : (a b : List ℕ) → 0 < length a → 0 < length (a ++ b)
some_front a b lt = omega (arith, lt, length-append a b)

some_back : (a b : List ℕ) → 0 < length b → 0 < length (a ++ b)
some_back a b lt = omega (arith, lt, length-append a b)

some_after : (bytes : List ℕ) → 0 < length (after_length bytes)
some_after bytes = some_front (shortest (pos (length bytes))) bytes (some_shortest (pos (length bytes)))

some_block : (count bytes : List ℕ) → 0 < length (count ++ (bytes ++ shortest (pos 0)))
some_block count bytes = some_back count (bytes ++ shortest (pos 0)) (some_back bytes (shortest (pos 0)) (some_shortest (pos 0)))

not_none : (n : ℕ) → 0 < n → false ≡ (n == 0)
not_none n lt = grind (arith, lt)

-- whether it has a number, a length or a count
abbrev pub has_number : Datum → Bool
has_number NullDatum = false
has_number (FixedDatum value) = false
has_number (RecordDatum ds) = false
has_number _ = true

pub some_bytes : (d : Datum) → has_number d ≡ true → false ≡ (length (written d) == 0)
unfolding written
some_bytes (BooleanDatum b) h = refl
some_bytes (IntDatum n) h = not_none (length (shortest n)) (some_shortest n)
some_bytes (LongDatum n) h = not_none (length (shortest n)) (some_shortest n)
some_bytes (BytesDatum value) h = not_none (length (after_length value)) (some_after value)
some_bytes (TextDatum text) h = not_none (length (after_length text)) (some_after text)
some_bytes (EnumDatum n) h = not_none (length (shortest (pos n))) (some_shortest (pos n))
some_bytes (ArrayDatum ds) h = not_none (length (written (ArrayDatum ds))) (some_block _ _)
some_bytes (MapDatum ps) h = not_none (length (written (MapDatum ps))) (some_block _ _)
some_bytes (UnionDatum n d) h = not_none (length (shortest (pos n) ++ written d)) (some_front (shortest (pos n)) (written d) (some_shortest (pos n)))
some_bytes NullDatum h = absurd (let no : ⊥ = cc in no)
some_bytes (FixedDatum value) h = absurd (let no : ⊥ = cc in no)
some_bytes (RecordDatum ds) h = absurd (let no : ⊥ = cc in no)

-- one datum more
pub blank_here : (ds : List rust.Datum) (i : ℕ) (d : rust.Datum) → i < length ds → d ≡ get_or ds i d → true ≡ (length (written (datum_of d)) == 0)
    → (length (written_data (data_of (drop (suc i) ds))) == 0) ≡ (length (written_data (data_of (drop i ds))) == 0)
blank_here ds i d lt e none =
    let from = ap length (written_from ds i d lt e) ∙ length-append (written (datum_of d)) (written_data (data_of (drop (suc i) ds))) in
    grind (arith, none, from)

pub number_there : (d e : rust.Datum) (x : Datum) → d ≡ e → datum_of e ≡ x → has_number x ≡ true → false ≡ (length (written (datum_of d)) == 0)
number_there d e x is of h = some_bytes x h ∙ ap (λ y. length (written y) == 0) (sym (ap datum_of is ∙ of))
