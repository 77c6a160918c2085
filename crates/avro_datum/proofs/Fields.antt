-- Walking over the fields of a record, one after another.
use Rattle.std.proofs.Common.{◌≡◌, ℕ, zero, suc, ◌+◌, ◌<◌, ◌≤◌, List, [], ◌∷◌, ◌++◌, length, drop, get_or, refl, sym, ap, subst, ◌∙◌, arith, add-one, Ok, Result}
use Rattle.std.proofs.Math.Seq.{drop-cons}
use Rattle.std.proofs.Math.ListN.{drop_of_length-le}
use Rattle.spec_avro.specs.declared.meter.Meter.{Meter}
use Rattle.spec_decoding.specs.declared.fault.Fault.{Fault}
use Rattle.avro_types.specs.declared.kind.Field.{Field}
use Rattle.spec_avro.specs.Datum.{Datum, Data, RecordDatum, no_more, more}
use Rattle.spec_avro.specs.Node.{FieldNode}
use Rattle.avro_types.specs.Node.{field_of, fields_of}
use Rattle.spec_avro.specs.WellFormed.{FieldsBelow}
use Rattle.spec_decoding.specs.Opening.{opened_record}
use Rattle.avro_datum.specs.Decoding.{Decoder, closed_record, data_from, fields_at, record_at}
use Rattle.spec_decoding.specs.Decoding.{Complete, Decoding, Failed, inside, ◌>>=◌}
use Rattle.avro_bytes.specs.Decoding.{map_decoding}
use Rattle.avro_datum.specs.Walking.{Failing}
use Rattle.avro_datum.proofs.Walked.{fails_mapped, fails_then}

-- ---- a field of a list of them

pub field_below : (len : ℕ) (fs : List Field) (i : ℕ) (f : Field) → FieldsBelow len (fields_of fs) → i < length fs → f ≡ get_or fs i f → f.node < len
field_below len [] i f all lt e = absurd (omega arith)
field_below len (g ∷ fs) zero f all lt e = subst (λ (x : Field). x.node < len) (sym e) all.0
field_below len (g ∷ fs) (suc i) f all lt e = field_below len fs i f all.1 (omega arith) e

fields_from : (fs : List Field) (i : ℕ) (f : Field) → i < length fs → f ≡ get_or fs i f → fields_of (drop i fs) ≡ field_of f ∷ fields_of (drop (suc i) fs)
fields_from fs i f lt e = ap fields_of (drop-cons fs i f lt) ∙ ap (λ (x : Field). field_of x ∷ fields_of (drop (suc i) fs)) (sym e)

no_fields : (fs : List Field) (i : ℕ) → length fs ≤ i → fields_of (drop i fs) ≡ []
no_fields fs i le = ap fields_of (drop_of_length-le fs le)

-- ---- data that were passed, before those that are to come

abbrev data_before : List Datum → Data → Data
data_before [] es = es
data_before (d ∷ ds) es = more d (data_before ds es)

data_before-push : (ds : List Datum) (d : Datum) (es : Data) → data_before (ds ++ d ∷ []) es ≡ data_before ds (more d es)
data_before-push [] d es = refl
data_before-push (x ∷ ds) d es = ap (more x) (data_before-push ds d es)

data_before-none : (ds : List Datum) → data_before ds no_more ≡ data_from ds
data_before-none [] = refl
data_before-none (d ∷ ds) = ap (more d) (data_before-none ds)

abbrev preceded : List Datum → Decoding Data → Decoding Data
preceded front decoding = map_decoding (data_before front) decoding

preceded-nothing : (x : Decoding Data) → preceded [] x ≡ x
preceded-nothing (Complete ds to m) = refl
preceded-nothing (Failed defect) = refl

preceded-push : (front : List Datum) (d : Datum) (x : Decoding Data) → preceded (front ++ d ∷ []) x ≡ preceded front (x >>= λ ds end last. Complete (more d ds) end last)
preceded-push front d (Complete ds to m) = ap (λ (t : Data). Complete t to m) (data_before-push front d ds)
preceded-push front d (Failed defect) = refl

-- ---- where the first i fields have been passed, whose data a group holds

module _ {G : Type 0} (holds : G → List Datum → Type 0) (decoder : Decoder) (fs : List Field) (depth : ℕ) (all : Decoding Datum) where
  pub record SoFar (i : ℕ) (group : G) (to : ℕ) (m : Meter) : Type 0 where
    pub front : List Datum
    pub held : holds group front
    pub decoding : (preceded front (fields_at decoder (fields_of (drop i fs)) to m) >>= closed_record depth) ≡ all

  module _ (i : ℕ) (group : G) (to : ℕ) (m : Meter) (s : SoFar i group to m) where
    module _ (f : Field) (lt : i < length fs) (is : f ≡ get_or fs i f) where
      abbrev after_it : Datum → ℕ → Meter → Decoding Data
      after_it d next after = fields_at decoder (fields_of (drop (suc i) fs)) next after >>= λ ds end last. Complete (more d ds) end last

      here : all ≡ (preceded s.front (decoder f.node to m >>= after_it) >>= closed_record depth)
      unfolding fields_at
      here = sym s.decoding ∙ ap (λ (ns : List FieldNode). preceded s.front (fields_at decoder ns to m) >>= closed_record depth) (fields_from fs i f lt is)

      pub goes_on : (d : Datum) (next : ℕ) (after : Meter) → decoder f.node to m ≡ Complete d next after → (grown : G) → (holds group s.front → holds grown (s.front ++ d ∷ [])) → SoFar (i + 1) grown next after
      goes_on d next after e grown h = record {
        front = s.front ++ d ∷ [];
        held = h s.held;
        decoding =
            rw add-one (ap (λ (x : Decoding Data). x >>= closed_record depth) (preceded-push s.front d (fields_at decoder (fields_of (drop (suc i) fs)) next after))
            ∙ sym (here ∙ ap (λ (x : Decoding Datum). preceded s.front (x >>= after_it) >>= closed_record depth) e));
      }

      pub fails : (L : Type 0) (e : Fault) → Failing L e (decoder f.node to m) → Failing L e all
      fails L e h = rw here (fails_then L (closed_record depth) e (preceded s.front (decoder f.node to m >>= after_it)) (fails_mapped L (data_before s.front) e (decoder f.node to m >>= after_it) (fails_then L after_it e (decoder f.node to m) h)))

    pub ends : length fs ≤ i → all ≡ Complete (RecordDatum (data_from s.front)) to (record { depth = depth; units = m.units })
    unfolding fields_at
    ends le =
        sym s.decoding ∙ ap (λ (ns : List FieldNode). preceded s.front (fields_at decoder ns to m) >>= closed_record depth) (no_fields fs i le)
        ∙ ap (λ (ds : Data). Complete (RecordDatum ds) to (record { depth = depth; units = m.units })) (data_before-none s.front)

-- none of the fields of a record that was opened
pub starts : {G : Type 0} (holds : G → List Datum → Type 0) (decoder : Decoder) (fs : List Field) (at : ℕ) (m within : Meter) (group : G) → opened_record at m ≡ Ok within → holds group [] → SoFar holds decoder fs m.depth (record_at decoder (fields_of fs) at m) 0 group at within
starts holds decoder fs at m within group o h = record {
  front = [];
  held = h;
  decoding =
      ap (λ (x : Decoding Data). x >>= closed_record m.depth) (preceded-nothing (fields_at decoder (fields_of fs) at within))
      ∙ sym (ap (λ (r : Result Meter Fault). inside r (λ within. fields_at decoder (fields_of fs) at within >>= closed_record m.depth)) o);
}
