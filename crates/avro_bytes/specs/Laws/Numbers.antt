-- A number that is read is spelled so, one that is spelled is read, and what is decided stays so.
use Rattle.std.proofs.Common.{◌≡◌, ℕ, zero, suc, ◌+◌, ◌-◌, ◌*◌, ◌/◌, ◌%◌, ◌^◌, ◌<◌, ◌≤◌, ◌≢◌, List, [], ◌∷◌, ◌++◌, length, drop, get_or, refl, sym, ap, subst, ◌∙◌, arith, inl, inr, cond, Bool, true, false, eqb, ℤ, pos, negsuc}
use Rattle.std.proofs.lemmas.Bool.{le-ltb, lt-ltb, cases_lt, eqb-true, eqb-false}
use Rattle.std.proofs.lemmas.List.{drop_at, drop-append-le}
use Rattle.std.proofs.Math.Numerals.{sub-one}
use Rattle.spec_avro.specs.declared.meter.Meter.{Meter}
use Rattle.spec_avro.specs.Number.{groups_sum, IsChained, zigzag, Limit, IsNumber}
use Rattle.spec_decoding.specs.NumberDecoding.{Front, Ends, TooGreat, Open, longer, number_front, from_zigzag, number_of, number_at}
use Rattle.avro_bytes.specs.Laws.Binds.{complete_is}
use Rattle.avro_bytes.specs.Laws.Groups.{ends_is, front_below, longer_ends}
use Rattle.spec_decoding.specs.Decoding.{Complete, Failed}
use Rattle.avro_bytes.specs.Decoding.{Stands}
use Rattle.spec_avro.specs.Defect.{Need}

pub record Sound (left top : ℕ) (bytes ends : List ℕ) : Type 0 where
  pub rest : List ℕ
  pub parts : bytes ≡ ends ++ rest
  pub chained : IsChained ends
  pub short : length ends ≤ left
  pub last : get_or ends (left - 1) 0 ≤ top

chained_more : (b : ℕ) (ends : List ℕ) → 128 ≤ b → IsChained ends → IsChained (b ∷ ends)
chained_more b [] le h = absurd h
chained_more b (c ∷ ends) le h = (le, h)

pub front_sound : (left top : ℕ) (bytes ends : List ℕ) → top < 128 → number_front left top bytes ≡ Ends ends → Sound left top bytes ends
unfolding number_front
front_sound zero top bytes ends h e = absurd cc
front_sound (suc zero) top [] ends h e = absurd cc
front_sound (suc (suc left)) top [] ends h e = absurd cc
front_sound (suc zero) top (b ∷ bytes) ends h e =
    elim (cases_lt top b) [
      | inl lt ↦ absurd (let f : TooGreat ≡ Ends ends = rw lt-ltb at e in cc)
      | inr le ↦ (let f : Ends (b ∷ []) ≡ Ends ends = rw le-ltb at e in subst (Sound 1 top (b ∷ bytes)) (ends_is f) (record { rest = bytes; parts = refl; chained = omega arith; short = omega arith; last = le }))
    ]
front_sound (suc (suc left)) top (b ∷ bytes) ends h e =
    elim (cases_lt b 128) [
      | inl lt ↦ (let f : Ends (b ∷ []) ≡ Ends ends = rw lt-ltb at e in subst (Sound (suc (suc left)) top (b ∷ bytes)) (ends_is f) (record { rest = bytes; parts = refl; chained = lt; short = omega arith; last = rw sub-one (omega arith) }))
      | inr le ↦ (
          let f : longer b (number_front (suc left) top bytes) ≡ Ends ends = rw le-ltb at e in
          let g = longer_ends b (number_front (suc left) top bytes) ends f in
          let t = front_sound (suc left) top bytes g.0 h g.1 in
          let last : get_or g.0 left 0 ≤ top = rw sub-one at t.last in
          subst (Sound (suc (suc left)) top (b ∷ bytes)) (sym g.2) (record { rest = t.rest; parts = ap (λ (x : List ℕ). b ∷ x) t.parts; chained = chained_more b g.0 le t.chained; short = omega (arith, t.short); last = rw sub-one last }))
    ]

pub front_again : (left top : ℕ) (bytes rest : List ℕ) → IsChained bytes → length bytes ≤ left → get_or bytes (left - 1) 0 ≤ top → number_front left top (bytes ++ rest) ≡ Ends bytes
unfolding number_front
front_again left top [] rest c s l = absurd c
front_again zero top (b ∷ bytes) rest c s l = absurd (omega arith)
front_again (suc zero) top (b ∷ []) rest c s l = let le : b ≤ top = l in rw le-ltb refl
front_again (suc zero) top (b ∷ d ∷ bytes) rest c s l = absurd (omega arith)
front_again (suc (suc left)) top (b ∷ []) rest c s l = rw lt-ltb refl
front_again (suc (suc left)) top (b ∷ d ∷ bytes) rest c s l =
    let le : 128 ≤ b = c.0 in
    let last : get_or (d ∷ bytes) (suc left - 1) 0 ≤ top = rw sub-one (rw sub-one at l) in
    rw (le-ltb b 128 le, front_again (suc left) top (d ∷ bytes) rest c.1 (omega arith) last) refl

steady_longer : (b : ℕ) (f g : Front) → (f ≢ Open → g ≡ f) → longer b f ≢ Open → longer b g ≡ longer b f
steady_longer b (Ends bytes) g h n = ap (longer b) (h (λ e. absurd cc))
steady_longer b TooGreat g h n = ap (longer b) (h (λ e. absurd cc))
steady_longer b Open g h n = absurd (n refl)

pub front_steady : (left top : ℕ) (bytes more : List ℕ) → number_front left top bytes ≢ Open → number_front left top (bytes ++ more) ≡ number_front left top bytes
unfolding number_front
front_steady zero top bytes more n = refl
front_steady (suc zero) top [] more n = absurd (n refl)
front_steady (suc (suc left)) top [] more n = absurd (n refl)
front_steady (suc zero) top (b ∷ bytes) more n = refl
front_steady (suc (suc left)) top (b ∷ bytes) more n =
    elim (cases_lt b 128) [
      | inl lt ↦ rw (lt-ltb b 128 lt) refl
      | inr le ↦ rw (le-ltb b 128 le) (steady_longer b (number_front (suc left) top bytes) (number_front (suc left) top (bytes ++ more)) (front_steady (suc left) top bytes more) (λ e. n (rw (le-ltb b 128 le) e)))
    ]

from_even : (b : Bool) (n k : ℕ) → eqb (k % 2) 0 ≡ b → k ≡ 2 * n → cond b (pos (k / 2)) (negsuc (k / 2)) ≡ pos n
from_even true n k t e = ap pos (let r : k / 2 ≡ n = omega arith in r)
from_even false n k t e = absurd (eqb-false (k % 2) 0 t (omega arith))

from_odd : (b : Bool) (n k : ℕ) → eqb (k % 2) 0 ≡ b → k ≡ 2 * n + 1 → cond b (pos (k / 2)) (negsuc (k / 2)) ≡ negsuc n
from_odd true n k t e = absurd (let z : k % 2 ≡ 0 = eqb-true (k % 2) 0 t in omega arith)
from_odd false n k t e = ap negsuc (let r : k / 2 ≡ n = omega arith in r)

pub from-zigzag : (n : ℤ) → from_zigzag (zigzag n) ≡ n
from-zigzag (pos n) = from_even (eqb (2 * n % 2) 0) n (2 * n) refl refl
from-zigzag (negsuc n) = from_odd (eqb ((2 * n + 1) % 2) 0) n (2 * n + 1) refl refl

zigzag_of : (b : Bool) (n : ℕ) → eqb (n % 2) 0 ≡ b → zigzag (cond b (pos (n / 2)) (negsuc (n / 2))) ≡ n
zigzag_of true n t = let z : n % 2 ≡ 0 = eqb-true (n % 2) 0 t in omega arith
zigzag_of false n t = let z : n % 2 ≢ 0 = eqb-false (n % 2) 0 t in omega arith

pub zigzag-from : (n : ℕ) → zigzag (from_zigzag n) ≡ n
zigzag-from n = zigzag_of (eqb (n % 2) 0) n refl

pub number_again : (limit : Limit) (before bytes rest : List ℕ) (n : ℤ) (m : Meter) → IsNumber limit n bytes → number_at limit (before ++ (bytes ++ rest)) (length before) m ≡ Complete n (length before + length bytes) m
unfolding number_at
number_again limit before bytes rest n m s =
    let f = front_again limit.most limit.top bytes rest s.chained s.short s.last in
    ap (λ (x : List ℕ). number_of (length before) m (number_front limit.most limit.top x)) (drop_at before (bytes ++ rest) (length before) refl)
    ∙ ap (number_of (length before) m) f ∙ ap (λ (k : ℤ). Complete k (length before + length bytes) m) (ap from_zigzag s.value ∙ from-zigzag n)

number_of_sound : (limit : Limit) (bytes : List ℕ) (at : ℕ) (m : Meter) (f : Front) (n : ℤ) (to : ℕ) (after : Meter) → number_of at m f ≡ Complete n to after → (ends : List ℕ) × (f ≡ Ends ends) × (from_zigzag (groups_sum ends) ≡ n) × (at + length ends ≡ to) × (m ≡ after)
number_of_sound limit bytes at m (Ends ends) n to after e = let w = complete_is e in (ends, refl, w.0, w.1, w.2)
number_of_sound limit bytes at m TooGreat n to after e = absurd cc
number_of_sound limit bytes at m Open n to after e = absurd cc

pub number_sound : (limit : Limit) (all : List ℕ) (at : ℕ) (m : Meter) (n : ℤ) (to : ℕ) (after : Meter) → limit.top < 128 → number_at limit all at m ≡ Complete n to after → Stands (IsNumber limit n) all at to × (m ≡ after)
unfolding number_at
number_sound limit all at m n to after h e =
    let f = number_of_sound limit all at m (number_front limit.most limit.top (drop at all)) n to after e in
    let t = front_sound limit.most limit.top (drop at all) f.0 h f.1 in (
      record {
        bytes = f.0;
        rest = t.rest;
        parts = t.parts;
        end = sym f.3;
        spelled = record { chained = t.chained; short = t.short; last = t.last; value = sym (zigzag-from (groups_sum f.0)) ∙ ap zigzag f.2 };
      },
      f.4,
    )

pub number_one_form : (limit : Limit) (a b x y : List ℕ) (m n : ℤ) → IsNumber limit m a → IsNumber limit n b → a ++ x ≡ b ++ y → (a ≡ b) × (m ≡ n)
number_one_form limit a b x y m n s t e =
    let f = front_again limit.most limit.top a x s.chained s.short s.last in
    let g = front_again limit.most limit.top b y t.chained t.short t.last in
    let same : a ≡ b = ends_is (sym f ∙ ap (number_front limit.most limit.top) e ∙ g) in
    (same, sym (from-zigzag m) ∙ ap from_zigzag (sym s.value ∙ ap groups_sum same ∙ t.value) ∙ from-zigzag n)

number_of_steady : (at : ℕ) (m : Meter) (f g : Front) → (f ≢ Open → g ≡ f) → number_of at m f ≢ Failed Need → number_of at m g ≡ number_of at m f
number_of_steady at m (Ends bytes) g h c = ap (number_of at m) (h (λ e. absurd cc))
number_of_steady at m TooGreat g h c = ap (number_of at m) (h (λ e. absurd cc))
number_of_steady at m Open g h c = absurd (c refl)

pub number_steady : (limit : Limit) (all more : List ℕ) (at : ℕ) (m : Meter) → at ≤ length all → number_at limit all at m ≢ Failed Need → number_at limit (all ++ more) at m ≡ number_at limit all at m
unfolding number_at
number_steady limit all more at m le c =
    let d : drop at (all ++ more) ≡ drop at all ++ more = drop-append-le at all more le in
    ap (λ (x : List ℕ). number_of at m (number_front limit.most limit.top x)) d ∙ number_of_steady at m (number_front limit.most limit.top (drop at all)) (number_front limit.most limit.top (drop at all ++ more)) (front_steady limit.most limit.top (drop at all) more) c

pub number_complete : (limit : Limit) (before bytes rest : List ℕ) (n : ℤ) (m after : Meter) → IsNumber limit n bytes → m ≡ after → number_at limit (before ++ (bytes ++ rest)) (length before) m ≡ Complete n (length before + length bytes) after
number_complete limit before bytes rest n m after s e = number_again limit before bytes rest n m s ∙ ap (λ (x : Meter). Complete n (length before + length bytes) x) e

-- how great a number within the limit can be
pub number_below : (limit : Limit) (n : ℤ) (bytes : List ℕ) → 0 < limit.most → limit.top < 128 → IsNumber limit n bytes → zigzag n < (limit.top + 1) * 2 ^ (7 * (limit.most - 1))
number_below limit n bytes some top s =
    let again = front_again limit.most limit.top bytes [] s.chained s.short s.last in
    subst (λ (k : ℕ). k < (limit.top + 1) * 2 ^ (7 * (limit.most - 1))) s.value (front_below limit.most limit.top (bytes ++ []) bytes some top again)

-- a number has a byte at least
pub number_some : (limit : Limit) (n : ℤ) (bytes : List ℕ) → IsNumber limit n bytes → 0 < length bytes
number_some limit n [] s = absurd s.chained
number_some limit n (b ∷ bytes) s = omega arith

pub pos_is : {a b : ℕ} → pos a ≡ pos b → a ≡ b
pos_is e = cc
