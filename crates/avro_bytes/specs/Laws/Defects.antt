-- The first fault of an int or a long, both ways: what is reported is there, and what is there is reported.
use Rattle.std.proofs.Common.{◌≡◌, ℕ, zero, suc, ◌+◌, ◌<◌, ◌≤◌, List, [], ◌∷◌, ◌++◌, length, drop, refl, sym, ap, ◌∙◌, arith, inl, inr}
use Rattle.std.proofs.lemmas.Bool.{le-ltb, lt-ltb, cases_lt}
use Rattle.std.proofs.lemmas.List.{drop_at}
use Rattle.spec_avro.specs.declared.meter.Meter.{Meter}
use Rattle.spec_avro.specs.declared.malformed.MalformedKind.TheVariants.{BadNumber}
use Rattle.spec_avro.specs.Number.{Limit}
use Rattle.spec_decoding.specs.NumberDecoding.{Front, Ends, TooGreat, Open, longer, number_front, number_of, number_at}
use Rattle.spec_avro.specs.Defect.{Defect, Malformed, Need}
use Rattle.spec_decoding.specs.Decoding.{Failed}
use Rattle.spec_avro.specs.Fault.{AllHigh, FaultyNumber, NumberNeedsMore, IsTooGreat}
use Rattle.avro_bytes.specs.Fault.{HasDefect, failing}

-- ---- numbers

longer_great : (b : ℕ) (f : Front) → longer b f ≡ TooGreat → f ≡ TooGreat
longer_great b (Ends bytes) e = absurd cc
longer_great b TooGreat e = refl
longer_great b Open e = absurd cc

longer_open : (b : ℕ) (f : Front) → longer b f ≡ Open → f ≡ Open
longer_open b (Ends bytes) e = absurd cc
longer_open b TooGreat e = absurd cc
longer_open b Open e = refl

great_more : (left top b : ℕ) (bytes : List ℕ) → 128 ≤ b → IsTooGreat (record { most = left; top = top }) bytes → IsTooGreat (record { most = suc left; top = top }) (b ∷ bytes)
great_more left top b bytes le g = record { front = b ∷ g.front; last = g.last; rest = g.rest; parts = ap (λ (x : List ℕ). b ∷ x) g.parts; high = (le, g.high); whole = ap suc g.whole; great = g.great }

front_great : (left top : ℕ) (bytes : List ℕ) → number_front (suc left) top bytes ≡ TooGreat → IsTooGreat (record { most = suc left; top = top }) bytes
unfolding number_front
front_great left top [] e = absurd (let f : Open ≡ TooGreat = e in cc)
front_great zero top (b ∷ bytes) e =
    elim (cases_lt top b) [
      | inl lt ↦ record { front = []; last = b; rest = bytes; parts = refl; high = tt; whole = refl; great = lt }
      | inr le ↦ absurd (let f : Ends (b ∷ []) ≡ TooGreat = rw le-ltb at e in cc)
    ]
front_great (suc left) top (b ∷ bytes) e =
    elim (cases_lt b 128) [
      | inl lt ↦ absurd (let f : Ends (b ∷ []) ≡ TooGreat = rw lt-ltb at e in cc)
      | inr le ↦ (
          let f : longer b (number_front (suc left) top bytes) ≡ TooGreat = rw le-ltb at e in
          great_more (suc left) top b bytes le (front_great left top bytes (longer_great b (number_front (suc left) top bytes) f)))
    ]

front_open : (left top : ℕ) (bytes : List ℕ) → number_front (suc left) top bytes ≡ Open → AllHigh bytes × (length bytes < suc left)
unfolding number_front
front_open left top [] e = (tt, omega arith)
front_open zero top (b ∷ bytes) e =
    elim (cases_lt top b) [
      | inl lt ↦ absurd (let f : TooGreat ≡ Open = rw lt-ltb at e in cc)
      | inr le ↦ absurd (let f : Ends (b ∷ []) ≡ Open = rw le-ltb at e in cc)
    ]
front_open (suc left) top (b ∷ bytes) e =
    elim (cases_lt b 128) [
      | inl lt ↦ absurd (let f : Ends (b ∷ []) ≡ Open = rw lt-ltb at e in cc)
      | inr le ↦ (
          let f : longer b (number_front (suc left) top bytes) ≡ Open = rw le-ltb at e in
          let o = front_open left top bytes (longer_open b (number_front (suc left) top bytes) f) in
          ((le, o.0), omega (arith, o.1)))
    ]

great_front : (left top last : ℕ) (front rest : List ℕ) → AllHigh front → suc (length front) ≡ left → top < last → number_front left top (front ++ last ∷ rest) ≡ TooGreat
unfolding number_front
great_front zero top last front rest h e lt = refl
great_front (suc zero) top last [] rest h e lt = rw lt-ltb refl
great_front (suc (suc left)) top last [] rest h e lt = absurd (omega arith)
great_front (suc zero) top last (b ∷ front) rest h e lt = absurd (omega arith)
great_front (suc (suc left)) top last (b ∷ front) rest h e lt =
    let le : 128 ≤ b = h.0 in
    rw le-ltb (ap (longer b) (great_front (suc left) top last front rest h.1 (omega arith) lt))

open_front : (left top : ℕ) (bytes : List ℕ) → AllHigh bytes → length bytes < left → number_front left top bytes ≡ Open
unfolding number_front
open_front zero top bytes h lt = absurd (omega arith)
open_front (suc left) top [] h lt = refl
open_front (suc zero) top (b ∷ bytes) h lt = absurd (omega arith)
open_front (suc (suc left)) top (b ∷ bytes) h lt =
    let le : 128 ≤ b = h.0 in
    rw le-ltb (ap (longer b) (open_front (suc left) top bytes h.1 (omega arith)))

number_of_defect : (limit : Limit) (bytes : List ℕ) (at : ℕ) (m : Meter) (f : Front) → (f ≡ TooGreat → IsTooGreat limit bytes) → (f ≡ Open → NumberNeedsMore limit bytes) → HasDefect (number_of at m f) at (FaultyNumber limit bytes)
number_of_defect limit bytes at m (Ends ends) g o = tt
number_of_defect limit bytes at m TooGreat g o = (0, omega arith, (g refl, refl, refl))
number_of_defect limit bytes at m Open g o = o refl

defect_of : (most top : ℕ) (all : List ℕ) (at : ℕ) (m : Meter) → 0 < most → HasDefect (number_at (record { most = most; top = top }) all at m) at (FaultyNumber (record { most = most; top = top }) (drop at all))
unfolding number_at
defect_of zero top all at m some = absurd (omega arith)
defect_of (suc most) top all at m some =
    number_of_defect (record { most = suc most; top = top }) (drop at all) at m (number_front (suc most) top (drop at all))
    (λ e. front_great most top (drop at all) e)
    (λ e. let o = front_open most top (drop at all) e in record { high = o.0; few = o.1 })

-- a limit of one byte at least
pub number_defect : (limit : Limit) (all : List ℕ) (at : ℕ) (m : Meter) → 0 < limit.most → HasDefect (number_at limit all at m) at (FaultyNumber limit (drop at all))
number_defect limit all at m some = defect_of limit.most limit.top all at m some

pub number_told : (limit : Limit) (before bytes : List ℕ) (m : Meter) (d : Defect) → FaultyNumber limit bytes d → number_at limit (before ++ bytes) (length before) m ≡ failing (length before) d
unfolding number_at
number_told limit before bytes m (Malformed kind offset) f =
    let g = f.0 in
    let place : length before ≡ length before + offset = omega (arith, f.2) in
    ap (λ (x : List ℕ). number_of (length before) m (number_front limit.most limit.top x)) (drop_at before bytes (length before) refl ∙ g.parts)
    ∙ ap (number_of (length before) m) (great_front limit.most limit.top g.last g.front g.rest g.high g.whole g.great)
    ∙ ap (λ k. Failed (Malformed BadNumber k)) place ∙ ap (λ k. Failed (Malformed k (length before + offset))) (sym f.1)
number_told limit before bytes m Need f =
    ap (λ (x : List ℕ). number_of (length before) m (number_front limit.most limit.top x)) (drop_at before bytes (length before) refl)
    ∙ ap (number_of (length before) m) (open_front limit.most limit.top bytes f.high f.few)
