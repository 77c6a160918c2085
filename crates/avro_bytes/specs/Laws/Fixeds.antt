-- The bytes of a fixed: what is read is spelled so, what is spelled is read, and bytes are needed just where they lack.
use Rattle.std.proofs.Common.{◌≡◌, ◌≢◌, ℕ, ◌+◌, ◌-◌, ◌<◌, ◌≤◌, List, ◌++◌, length, take, drop, Bool, true, false, cond, ltb, refl, sym, ap, ◌∙◌, arith, inl, inr}
use Rattle.std.proofs.lemmas.Bool.{cases_lt, le-ltb, lt-ltb, ltb-true, ltb-false}
use Rattle.std.proofs.lemmas.List.{drop_at, take_at, length-append, length-take, length-drop, take-append-drop, drop-append-le, take-append-le}
use Rattle.spec_avro.specs.declared.meter.Meter.{Meter}
use Rattle.spec_avro.specs.Blob.{IsFixed, FaultyFixed}
use Rattle.avro_bytes.specs.Blob.{fixed_at}
use Rattle.avro_bytes.specs.Laws.Binds.{complete_is}
use Rattle.spec_decoding.specs.Decoding.{Complete, Failed}
use Rattle.avro_bytes.specs.Decoding.{Stands}
use Rattle.spec_avro.specs.Defect.{Defect, Malformed, Need}
use Rattle.avro_bytes.specs.Fault.{HasDefect, failing}

fixed_complete_is : (lacks : Bool) (content value : List ℕ) (place to : ℕ) (m after : Meter) → cond lacks (Failed Need) (Complete content place m) ≡ Complete value to after → (lacks ≡ false) × (content ≡ value) × (place ≡ to) × (m ≡ after)
fixed_complete_is true content value place to m after e = absurd cc
fixed_complete_is false content value place to m after e = let w = complete_is e in (refl, w.0, w.1, w.2)

pub fixed_sound : (size : ℕ) (all : List ℕ) (at : ℕ) (m : Meter) (value : List ℕ) (to : ℕ) (after : Meter) → fixed_at size all at m ≡ Complete value to after → Stands (IsFixed size value) all at to × (m ≡ after)
unfolding fixed_at
fixed_sound size all at m value to after e =
    let w = fixed_complete_is (ltb (length all - at) size) (take size (drop at all)) value (at + size) to m after e in
    let room : size ≤ length all - at = ltb-false _ _ w.0 in
    let whole : length value ≡ size = ap length (sym w.1) ∙ omega (arith, length-take size (drop at all), length-drop at all) in (
      record {
        bytes = value;
        rest = drop size (drop at all);
        parts = sym (take-append-drop size (drop at all)) ∙ ap (λ (b : List ℕ). b ++ drop size (drop at all)) w.1;
        end = omega (arith, w.2, whole);
        spelled = record { same = refl; whole = whole };
      },
      w.3,
    )

pub fixed_complete : (size : ℕ) (before bytes rest value : List ℕ) (m after : Meter) → IsFixed size value bytes → m ≡ after → fixed_at size (before ++ (bytes ++ rest)) (length before) m ≡ Complete value (length before + length bytes) after
unfolding fixed_at
fixed_complete size before bytes rest value m after s e =
    let all = before ++ (bytes ++ rest) in
    let len : length bytes ≡ size = ap length s.same ∙ s.whole in
    let here : drop (length before) all ≡ bytes ++ rest = drop_at before (bytes ++ rest) (length before) refl in
    let room : size ≤ length all - length before = omega (arith, len, ap length here, length-drop (length before) all, length-append bytes rest) in
    let taken : take size (drop (length before) all) ≡ value = ap (take size) here ∙ take_at bytes rest size len ∙ s.same in
    rw (le-ltb (length all - length before) size room) (ap (λ (v : List ℕ). Complete v (length before + size) m) taken)
    ∙ ap (λ (k : ℕ). Complete value (length before + k) m) (sym len) ∙ ap (λ (x : Meter). Complete value (length before + length bytes) x) e

pub fixed_one_form : (size : ℕ) (a b x y v w : List ℕ) → IsFixed size v a → IsFixed size w b → a ++ x ≡ b ++ y → (a ≡ b) × (v ≡ w)
fixed_one_form size a b x y v w s t e =
    let la : length a ≡ size = ap length s.same ∙ s.whole in
    let lb : length b ≡ size = ap length t.same ∙ t.whole in
    let same : a ≡ b = sym (take_at a x size la) ∙ ap (take size) e ∙ take_at b y size lb in
    (same, sym s.same ∙ same ∙ t.same)

pub fixed_steady : (size : ℕ) (all more : List ℕ) (at : ℕ) (m : Meter) → at ≤ length all → fixed_at size all at m ≢ Failed Need → fixed_at size (all ++ more) at m ≡ fixed_at size all at m
unfolding fixed_at
fixed_steady size all more at m le c =
    elim (cases_lt (length all - at) size) [
      | inl lacks ↦ absurd (c (rw (lt-ltb (length all - at) size lacks) refl))
      | inr room ↦ (
          let room' : size ≤ length (all ++ more) - at = omega (arith, length-append all more) in
          let fits : size ≤ length (drop at all) = omega (arith, length-drop at all) in
          let part : take size (drop at (all ++ more)) ≡ take size (drop at all) = ap (take size) (drop-append-le at all more le) ∙ take-append-le size (drop at all) more fits in
          rw (le-ltb (length all - at) size room, le-ltb (length (all ++ more) - at) size room', part) refl)
    ]

need_defect : (lacks : Bool) (size : ℕ) (all : List ℕ) (at : ℕ) (m : Meter) → ltb (length all - at) size ≡ lacks → HasDefect (cond lacks (Failed Need) (Complete (take size (drop at all)) (at + size) m)) at (FaultyFixed size (drop at all))
need_defect true size all at m e = omega (arith, ltb-true _ _ e, length-drop at all)
need_defect false size all at m e = tt

pub fixed_defect : (size : ℕ) (all : List ℕ) (at : ℕ) (m : Meter) → HasDefect (fixed_at size all at m) at (FaultyFixed size (drop at all))
unfolding fixed_at
fixed_defect size all at m = need_defect (ltb (length all - at) size) size all at m refl

pub fixed_told : (size : ℕ) (before bytes : List ℕ) (m : Meter) (d : Defect) → FaultyFixed size bytes d → fixed_at size (before ++ bytes) (length before) m ≡ failing (length before) d
unfolding fixed_at
fixed_told size before bytes m (Malformed kind offset) f = absurd f
fixed_told size before bytes m Need f =
    let lacks : length (before ++ bytes) - length before < size = omega (arith, f, length-append before bytes) in
    rw (lt-ltb (length (before ++ bytes) - length before) size lacks) refl
