-- Each rope is what its joint says, and stays so when further ones come.
use Rattle.std.proofs.Common.{◌≡◌, ◌≤◌, ◌^◌, min, ◌<◌, ℕ, zero, suc, ◌+◌, ◌-◌, List, [], ◌∷◌, ◌++◌, length, get_or, Some, slice_get, refl, sym, ap, ◌∙◌, subst, arith, length-append}
use Rattle.std.proofs.lemmas.List.{get_or_append_left, get_or_at}
use Rattle.machine_store.specs.declared.ropes.Joint.{Joint}
use Rattle.machine_store.specs.declared.ropes.Segment.{Segment}
use Rattle.machine_store.specs.Ropes.{AreCounted, AreJoints, IsJoint, IsRoped, counted, joined_by, rope_at, ropes_from, ropes_of}

pub ropes_from-push : (ropes : List (List Segment)) (js : List Joint) (j : Joint) →
    ropes_from ropes (js ++ j ∷ []) ≡ ropes_from ropes js ++ joined_by (ropes_from ropes js) j ∷ []
ropes_from-push ropes [] j = refl
ropes_from-push ropes (i ∷ js) j = ropes_from-push (ropes ++ joined_by ropes i ∷ []) js j

pub length-ropes_from : (ropes : List (List Segment)) (js : List Joint) → length (ropes_from ropes js) ≡ length ropes + length js
length-ropes_from ropes [] = omega arith
length-ropes_from ropes (j ∷ js) = omega (arith, length-ropes_from (ropes ++ joined_by ropes j ∷ []) js, length-append ropes (joined_by ropes j ∷ []))

pub AreJoints-push : (number : ℕ) (js : List Joint) (j : Joint) → AreJoints number js → IsJoint (number + length js) j → AreJoints number (js ++ j ∷ [])
AreJoints-push number [] j f g = (record { before = omega (arith, g.before); behind = omega (arith, g.behind) }, tt)
AreJoints-push number (i ∷ js) j f g = (f.0, AreJoints-push (suc number) js j f.1 (record { before = omega (arith, g.before); behind = omega (arith, g.behind) }))

pub AreJoints-get : (number : ℕ) (js : List Joint) (i : ℕ) (d : Joint) → AreJoints number js → i < length js → IsJoint (number + i) (get_or js i d)
AreJoints-get number [] i d f l = absurd (omega (arith, l))
AreJoints-get number (j ∷ js) zero d f l = record { before = omega (arith, f.0.before); behind = omega (arith, f.0.behind) }
AreJoints-get number (j ∷ js) (suc i) d f l =
    let g = AreJoints-get (suc number) js i d f.1 (omega (arith, l)) in
    record { before = omega (arith, g.before); behind = omega (arith, g.behind) }

front_stays : (ropes : List (List Segment)) (js : List Joint) (i : ℕ) → i < length ropes → rope_at (ropes_from ropes js) i ≡ rope_at ropes i
front_stays ropes [] i l = refl
front_stays ropes (j ∷ js) i l =
    front_stays (ropes ++ joined_by ropes j ∷ []) js i (omega (arith, l, length-append ropes (joined_by ropes j ∷ [])))
    ∙ get_or_append_left ropes (joined_by ropes j ∷ []) [] i l

same_joined : (some others : List (List Segment)) (j : Joint) → rope_at some j.before ≡ rope_at others j.before → rope_at some j.behind ≡ rope_at others j.behind → joined_by some j ≡ joined_by others j
same_joined some others j before behind =
    ap (λ (x : List Segment). x ++ j.segment ∷ rope_at some j.behind) before ∙ ap (λ (x : List Segment). rope_at others j.before ++ j.segment ∷ x) behind

rope_from : (number : ℕ) (ropes : List (List Segment)) (js : List Joint) (i : ℕ) (d : Joint) → AreJoints number js → length ropes ≡ suc number → i < length js →
    rope_at (ropes_from ropes js) (length ropes + i) ≡ joined_by (ropes_from ropes js) (get_or js i d)
rope_from number ropes [] i d f s l = absurd (omega (arith, l))
rope_from number ropes (j ∷ js) zero d f s l =
    let more = ropes ++ joined_by ropes j ∷ [] in
    let grown : length more ≡ suc (length ropes) = omega (arith, length-append ropes (joined_by ropes j ∷ [])) in
    ap (rope_at (ropes_from more js)) (let e : length ropes + 0 ≡ length ropes = omega arith in e)
    ∙ front_stays more js (length ropes) (omega (arith, grown))
    ∙ get_or_at ropes (joined_by ropes j) [] [] (length ropes) refl
    ∙ same_joined ropes (ropes_from more js) j (sym (front_stays ropes (j ∷ js) j.before (omega (arith, f.0.before, s)))) (sym (front_stays ropes (j ∷ js) j.behind (omega (arith, f.0.behind, s))))
rope_from number ropes (j ∷ js) (suc i) d f s l =
    let more = ropes ++ joined_by ropes j ∷ [] in
    let grown : length more ≡ suc (length ropes) = omega (arith, length-append ropes (joined_by ropes j ∷ [])) in
    ap (rope_at (ropes_from more js)) (let e : length ropes + suc i ≡ length more + i = omega (arith, grown) in e)
    ∙ rope_from (suc number) more js i d f.1 (omega (arith, grown, s)) (omega (arith, l))

-- a rope is what its joint says
pub rope_of : (js : List Joint) (at : ℕ) (d : Joint) → AreJoints 0 js → 0 < at → at ≤ length js → rope_at (ropes_of js) at ≡ joined_by (ropes_of js) (get_or js (at - 1) d)
rope_of js at d f some there =
    ap (rope_at (ropes_of js)) (let e : at ≡ 1 + (at - 1) = omega (arith, some) in e)
    ∙ rope_from 0 ([] ∷ []) js (at - 1) d f refl (omega (arith, some, there))

-- the first rope is empty
pub first_rope : (js : List Joint) → rope_at (ropes_of js) 0 ≡ []
first_rope js = front_stays ([] ∷ []) js 0 (omega arith)

-- a rope more, by the joint that is pushed
pub pushed : (ropes : List (List Segment)) (js more : List Joint) (j : Joint) → ropes_of js ≡ ropes → more ≡ js ++ j ∷ [] → ropes_of more ≡ ropes ++ joined_by ropes j ∷ []
pushed ropes js more j is e =
    ap ropes_of e ∙ ropes_from-push ([] ∷ []) js j ∙ ap (λ (x : List (List Segment)). x ++ joined_by x j ∷ []) is

pub how_many : (ropes : List (List Segment)) (js : List Joint) → ropes_of js ≡ ropes → length ropes ≡ 1 + length js
how_many ropes js is = sym (ap (λ (x : List (List Segment)). length x) is) ∙ length-ropes_from ([] ∷ []) js

-- ---- how many segments there are

pub AreCounted-push : (ropes : List (List Segment)) (js : List Joint) (j : Joint) → AreCounted ropes js → j.len ≡ counted (joined_by (ropes_from ropes js) j) → AreCounted ropes (js ++ j ∷ [])
AreCounted-push ropes [] j f e = (e, tt)
AreCounted-push ropes (i ∷ js) j f e = (f.0, AreCounted-push (ropes ++ joined_by ropes i ∷ []) js j f.1 e)

counted_from : (number : ℕ) (ropes : List (List Segment)) (js : List Joint) (i : ℕ) (d : Joint) → AreJoints number js → length ropes ≡ suc number → AreCounted ropes js → i < length js →
    (get_or js i d).len ≡ counted (joined_by (ropes_from ropes js) (get_or js i d))
counted_from number ropes [] i d f s c l = absurd (omega (arith, l))
counted_from number ropes (j ∷ js) zero d f s c l =
    c.0 ∙ ap counted (same_joined ropes (ropes_from ropes (j ∷ js)) j (sym (front_stays ropes (j ∷ js) j.before (omega (arith, f.0.before, s)))) (sym (front_stays ropes (j ∷ js) j.behind (omega (arith, f.0.behind, s)))))
counted_from number ropes (j ∷ js) (suc i) d f s c l =
    counted_from (suc number) (ropes ++ joined_by ropes j ∷ []) js i d f.1 (omega (arith, s, length-append ropes (joined_by ropes j ∷ []))) c.1 (omega (arith, l))

-- a joint says how many segments its rope has
pub counted_of : (js : List Joint) (at : ℕ) (d : Joint) → IsRoped js → 0 < at → at ≤ length js → (get_or js (at - 1) d).len ≡ counted (rope_at (ropes_of js) at)
counted_of js at d r some there = counted_from 0 ([] ∷ []) js (at - 1) d r.ordered refl r.counts (omega (arith, some, there)) ∙ ap counted (sym (rope_of js at d r.ordered some there))

pub counted_joined : (a b : List Segment) (s : Segment) (n : ℕ) → n ≡ min (min (counted a + 1) (2 ^ 64 - 1) + counted b) (2 ^ 64 - 1) → n ≡ counted (a ++ s ∷ b)
counted_joined a b s n e = omega (arith, e, length-append a (s ∷ b))

-- ---- one segment of a rope

get-before : (a b : List Segment) (s : Segment) (n : ℕ) → n < length a → slice_get (a ++ s ∷ b) n ≡ slice_get a n
get-before [] b s n l = absurd (omega (arith, l))
get-before (x ∷ a) b s zero l = refl
get-before (x ∷ a) b s (suc n) l = get-before a b s n (omega (arith, l))

pub get-there : (a b : List Segment) (s : Segment) (n : ℕ) → n ≡ length a → slice_get (a ++ s ∷ b) n ≡ Some s
get-there [] b s zero e = refl
get-there [] b s (suc n) e = absurd (omega (arith, e))
get-there (x ∷ a) b s zero e = absurd (omega (arith, e))
get-there (x ∷ a) b s (suc n) e = get-there a b s n (omega (arith, e))

get-behind : (a b : List Segment) (s : Segment) (n : ℕ) → length a < n → slice_get (a ++ s ∷ b) n ≡ slice_get b (n - (length a + 1))
get-behind [] b s zero l = absurd (omega (arith, l))
get-behind [] b s (suc n) l = ap (slice_get b) (let e : n ≡ suc n - 1 = omega arith in e)
get-behind (x ∷ a) b s zero l = absurd (omega (arith, l))
get-behind (x ∷ a) b s (suc n) l = get-behind a b s n (omega (arith, l)) ∙ ap (slice_get b) (let e : n - (length a + 1) ≡ suc n - (suc (length a) + 1) = omega arith in e)

-- where a segment is looked for: in a rope, at a number
pub record IsSought (ropes : List (List Segment)) (rope number at left : ℕ) : Type 0 where
  pub there : at < length ropes
  pub few : left ≤ number
  pub same : slice_get (rope_at ropes at) left ≡ slice_get (rope_at ropes rope) number

module _ (ropes : List (List Segment)) (js : List Joint) (rope number at left : ℕ) (j : Joint) (is : ropes_of js ≡ ropes) (f : IsRoped js) (few : number < 2 ^ 64 - 1) (w : IsSought ropes rope number at left) (some : 0 < at) (e : j ≡ get_or js (at - 1) j) where
  in_joint : rope_at ropes at ≡ rope_at ropes j.before ++ j.segment ∷ rope_at ropes j.behind
  in_joint =
      ap (λ (x : List (List Segment)). rope_at x at) (sym is)
      ∙ rope_of js at j f.ordered some (omega (arith, w.there, how_many ropes js is))
      ∙ ap (joined_by (ropes_of js)) (sym e)
      ∙ ap (λ (x : List (List Segment)). joined_by x j) is

  fits : IsJoint (at - 1) j
  fits =
      let g = AreJoints-get 0 js (at - 1) j f.ordered (omega (arith, some, w.there, how_many ropes js is)) in
      subst (IsJoint (at - 1)) (sym e) (record { before = omega (arith, g.before); behind = omega (arith, g.behind) })

  pub before_there : j.before < length ropes
  before_there = omega (arith, fits.before, w.there, some)

  pub sought_here : left ≡ counted (rope_at ropes j.before) → Some j.segment ≡ slice_get (rope_at ropes rope) number
  sought_here n = sym (get-there (rope_at ropes j.before) (rope_at ropes j.behind) j.segment left (omega (arith, n, few, w.few))) ∙ ap (λ (x : List Segment). slice_get x left) (sym in_joint) ∙ w.same

  pub sought_before : left < counted (rope_at ropes j.before) → IsSought ropes rope number j.before left
  sought_before lt = record {
    there = before_there;
    few = w.few;
    same = sym (get-before (rope_at ropes j.before) (rope_at ropes j.behind) j.segment left (omega (arith, lt))) ∙ ap (λ (x : List Segment). slice_get x left) (sym in_joint) ∙ w.same;
  }

  pub sought_behind : (n : ℕ) → n ≡ counted (rope_at ropes j.before) → n < left → IsSought ropes rope number j.behind (left - (n + 1))
  sought_behind n c lt =
      let size : n ≡ length (rope_at ropes j.before) = omega (arith, c, lt, w.few, few) in
      record {
        there = omega (arith, fits.behind, w.there, some);
        few = omega (arith, w.few);
        same = ap (λ (k : ℕ). slice_get (rope_at ropes j.behind) (left - (k + 1))) size
            ∙ sym (get-behind (rope_at ropes j.before) (rope_at ropes j.behind) j.segment left (omega (arith, lt, size)))
            ∙ ap (λ (x : List Segment). slice_get x left) (sym in_joint)
            ∙ w.same;
      }

  pub sought_smaller : (j.before < at) × (j.behind < at)
  sought_smaller = (omega (arith, fits.before, some), omega (arith, fits.behind, some))
