-- A boolean that is read is spelled so, and one that is spelled is read; the first fault of one, both ways.
use Rattle.std.proofs.Common.{◌≡◌, ◌≢◌, ℕ, ◌+◌, ◌<◌, ◌≤◌, List, [], ◌∷◌, ◌++◌, length, drop, get_or, Bool, true, false, cond, eqb, refl, sym, ap, ◌∙◌, arith}
use Rattle.std.proofs.lemmas.Bool.{eqb-true, eqb-false}
use Rattle.std.proofs.lemmas.Bool.Decides.{nat_tests}
use Rattle.std.proofs.lemmas.List.{drop_at, drop_all, drop_more, drop-append-le}
use Rattle.spec_avro.specs.declared.meter.Meter.{Meter}
use Rattle.spec_avro.specs.declared.malformed.MalformedKind.TheVariants.{BadBoolean}
use Rattle.spec_avro.specs.Boolean.{IsBoolean, IsAboveOne, FaultyBoolean, boolean_byte}
use Rattle.spec_decoding.specs.BooleanDecoding.{boolean_at, boolean_of}
use Rattle.avro_bytes.specs.Laws.Binds.{complete_is}
use Rattle.spec_decoding.specs.Decoding.{Complete, Failed}
use Rattle.avro_bytes.specs.Decoding.{Stands}
use Rattle.spec_avro.specs.Defect.{Defect, Malformed, Need}
use Rattle.avro_bytes.specs.Fault.{HasDefect, failing}

-- ---- what is at an offset

pub boolean_past : (bytes : List ℕ) (at : ℕ) (m : Meter) → length bytes ≤ at → boolean_at bytes at m ≡ Failed Need
unfolding boolean_at
boolean_past bytes at m past = ap (boolean_of at m) (drop_all at bytes past)

pub boolean_there : (bytes : List ℕ) (at : ℕ) (m : Meter) → at < length bytes → boolean_at bytes at m ≡ boolean_of at m (get_or bytes at 0 ∷ [])
unfolding boolean_at
boolean_there bytes at m inside = ap (boolean_of at m) (drop_more bytes at 0 inside)

-- ---- what is decoded

byte_sound : (byte at to : ℕ) (m after : Meter) (zeros ones value : Bool) → eqb byte 0 ≡ zeros → eqb byte 1 ≡ ones
    → cond zeros (Complete false (at + 1) m) (cond ones (Complete true (at + 1) m) (Failed (Malformed BadBoolean at))) ≡ Complete value to after → (byte ≡ boolean_byte value) × (at + 1 ≡ to) × (m ≡ after)
byte_sound byte at to m after true ones value z o e = let w = complete_is e in (eqb-true byte 0 z ∙ ap boolean_byte w.0, w.1, w.2)
byte_sound byte at to m after false true value z o e = let w = complete_is e in (eqb-true byte 1 o ∙ ap boolean_byte w.0, w.1, w.2)
byte_sound byte at to m after false false value z o e = absurd cc

of_sound : (bytes : List ℕ) (at : ℕ) (m : Meter) (value : Bool) (to : ℕ) (after : Meter) → boolean_of at m bytes ≡ Complete value to after → (rest : List ℕ) × (bytes ≡ (boolean_byte value ∷ []) ++ rest) × (at + 1 ≡ to) × (m ≡ after)
of_sound [] at m value to after e = absurd cc
of_sound (byte ∷ rest) at m value to after e =
    let s = byte_sound byte at to m after (eqb byte 0) (eqb byte 1) value refl refl e in
    (rest, ap (λ (b : ℕ). b ∷ rest) s.0, s.1, s.2)

pub boolean_sound : (all : List ℕ) (at : ℕ) (m : Meter) (value : Bool) (to : ℕ) (after : Meter) → boolean_at all at m ≡ Complete value to after → Stands (IsBoolean value) all at to × (m ≡ after)
unfolding boolean_at
boolean_sound all at m value to after e =
    let s = of_sound (drop at all) at m value to after e in
    (record { bytes = boolean_byte value ∷ []; rest = s.0; parts = s.1; end = sym s.2; spelled = refl }, s.3)

of_byte : (value : Bool) (rest : List ℕ) (at : ℕ) (m : Meter) → boolean_of at m (boolean_byte value ∷ rest) ≡ Complete value (at + 1) m
of_byte true rest at m = refl
of_byte false rest at m = refl

pub boolean_complete : (before bytes rest : List ℕ) (value : Bool) (m after : Meter) → IsBoolean value bytes → m ≡ after → boolean_at (before ++ (bytes ++ rest)) (length before) m ≡ Complete value (length before + length bytes) after
unfolding boolean_at
boolean_complete before bytes rest value m after s e =
    let here : drop (length before) (before ++ (bytes ++ rest)) ≡ boolean_byte value ∷ rest = drop_at before (bytes ++ rest) (length before) refl ∙ ap (λ (b : List ℕ). b ++ rest) s in
    let end : length before + 1 ≡ length before + length bytes = ap (λ (b : List ℕ). length before + length b) (sym s) in
    ap (boolean_of (length before) m) here ∙ of_byte value rest (length before) m ∙ ap (λ (k : ℕ). Complete value k m) end ∙ ap (λ (x : Meter). Complete value (length before + length bytes) x) e

same_byte : (v w : Bool) → boolean_byte v ≡ boolean_byte w → v ≡ w
same_byte true true e = refl
same_byte true false e = absurd cc
same_byte false true e = absurd cc
same_byte false false e = refl

pub boolean_one_form : (a b x y : List ℕ) (v w : Bool) → IsBoolean v a → IsBoolean w b → a ++ x ≡ b ++ y → (a ≡ b) × (v ≡ w)
boolean_one_form a b x y v w s t e =
    let whole : boolean_byte v ∷ x ≡ boolean_byte w ∷ y = ap (λ (k : List ℕ). k ++ x) (sym s) ∙ e ∙ ap (λ (k : List ℕ). k ++ y) t in
    let byte : boolean_byte v ≡ boolean_byte w = cc in
    let same = same_byte v w byte in
    (s ∙ ap (λ (k : ℕ). k ∷ []) byte ∙ sym t, same)

of_steady : (bytes more : List ℕ) (at : ℕ) (m : Meter) → boolean_of at m bytes ≢ Failed Need → boolean_of at m (bytes ++ more) ≡ boolean_of at m bytes
of_steady [] more at m c = absurd (c refl)
of_steady (byte ∷ rest) more at m c = refl

pub boolean_steady : (all more : List ℕ) (at : ℕ) (m : Meter) → at ≤ length all → boolean_at all at m ≢ Failed Need → boolean_at (all ++ more) at m ≡ boolean_at all at m
unfolding boolean_at
boolean_steady all more at m le c = ap (boolean_of at m) (drop-append-le at all more le) ∙ of_steady (drop at all) more at m c

-- ---- faults

above_one : (byte : ℕ) → byte ≢ 0 → byte ≢ 1 → 1 < byte
above_one byte z o = omega arith

byte_defect : (byte at : ℕ) (rest : List ℕ) (m : Meter) (zeros ones : Bool) → eqb byte 0 ≡ zeros → eqb byte 1 ≡ ones
    → HasDefect (cond zeros (Complete false (at + 1) m) (cond ones (Complete true (at + 1) m) (Failed (Malformed BadBoolean at)))) at (FaultyBoolean (byte ∷ rest))
byte_defect byte at rest m true ones z o = tt
byte_defect byte at rest m false true z o = tt
byte_defect byte at rest m false false z o =
    let above : IsAboveOne (byte ∷ rest) = record { byte = byte; rest = rest; parts = refl; above = above_one byte (eqb-false byte 0 z) (eqb-false byte 1 o) } in
    (0, omega arith, (above, refl, refl))

of_defect : (bytes : List ℕ) (at : ℕ) (m : Meter) → HasDefect (boolean_of at m bytes) at (FaultyBoolean bytes)
of_defect [] at m = refl
of_defect (byte ∷ rest) at m = byte_defect byte at rest m (eqb byte 0) (eqb byte 1) refl refl

pub boolean_defect : (all : List ℕ) (at : ℕ) (m : Meter) → HasDefect (boolean_at all at m) at (FaultyBoolean (drop at all))
unfolding boolean_at
boolean_defect all at m = of_defect (drop at all) at m

of_above : (byte : ℕ) (rest : List ℕ) (at : ℕ) (m : Meter) → 1 < byte → boolean_of at m (byte ∷ rest) ≡ Failed (Malformed BadBoolean at)
of_above byte rest at m above = grind (arith, nat_tests)

pub boolean_told : (before bytes : List ℕ) (m : Meter) (d : Defect) → FaultyBoolean bytes d → boolean_at (before ++ bytes) (length before) m ≡ failing (length before) d
unfolding boolean_at
boolean_told before bytes m (Malformed kind offset) f =
    let above = f.0 in
    let place : length before ≡ length before + offset = omega (arith, f.2) in
    ap (boolean_of (length before) m) (drop_at before bytes (length before) refl ∙ above.parts)
    ∙ of_above above.byte above.rest (length before) m above.above
    ∙ ap (λ k. Failed (Malformed BadBoolean k)) place ∙ ap (λ k. Failed (Malformed k (length before + offset))) (sym f.1)
boolean_told before bytes m Need f = ap (boolean_of (length before) m) (drop_at before bytes (length before) refl ∙ f)
