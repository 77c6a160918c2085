-- A rope written segment by segment: what is left to write, and for how many turns.
use Rattle.std.proofs.Common.{◌≡◌, ◌≤◌, ◌<◌, ℕ, ◌*◌, ◌-◌, List, [], ◌∷◌, ◌++◌, length, reverse, get_or, refl, sym, ap, ◌∙◌, subst, arith, append_assoc, length-append}
use Rattle.std.proofs.lemmas.List.{append-nil, get_or_default, nil_from_length, reverse-append}
use Rattle.machine_store.specs.declared.ropes.Joint.{Joint}
use Rattle.machine_store.specs.declared.ropes.Segment.{Segment}
use Rattle.machine_store.specs.Ropes.{AreJoints, rope_at, ropes_of}
use Rattle.machine_store.specs.Segments.{AreWithin, IsSegment, bytes_at, bytes_of}
use Rattle.machine_store.proofs.Roping.{AreJoints-get, first_rope, how_many, rope_of}

pub bytes_of-append : (arena : List ℕ) (a b : List Segment) → bytes_of arena (a ++ b) ≡ bytes_of arena a ++ bytes_of arena b
bytes_of-append arena [] b = refl
bytes_of-append arena (s ∷ a) b = ap (λ (x : List ℕ). bytes_at arena s ++ x) (bytes_of-append arena a b) ∙ sym (append_assoc (bytes_at arena s) (bytes_of arena a) (bytes_of arena b))

abbrev joint_of : List Joint → ℕ → Joint
joint_of js number = get_or js (number - 1) (record { before = 0; segment = record { place = 0; end = 0 }; behind = 0; len = 0 })

-- the segments that are left after the ropes that wait, the newest first
abbrev pub waiting : List Joint → List ℕ → List Segment
waiting js [] = []
waiting js (p ∷ ps) = (joint_of js p).segment ∷ (rope_at (ropes_of js) (joint_of js p).behind ++ waiting js ps)

-- all that is left
abbrev pub remaining : List Joint → ℕ → List ℕ → List Segment
remaining js at ps = rope_at (ropes_of js) at ++ waiting js ps

abbrev pub AreThere : ℕ → List ℕ → Type 0
AreThere n [] = Unit {0}
AreThere n (p ∷ ps) = ((0 < p) × (p ≤ n)) × AreThere n ps

pub record IsWriting (arena : List ℕ) (js : List Joint) (whole out : List ℕ) (at : ℕ) (ps : List ℕ) : Type 0 where
  pub joints : AreJoints 0 js
  pub there : at ≤ length js
  pub all : AreThere (length js) ps
  pub within : AreWithin (length arena) (remaining js at ps)
  pub told : out ++ bytes_of arena (remaining js at ps) ≡ whole

abbrev pub turns : List Joint → ℕ → List ℕ → ℕ
turns js at ps = 2 * length (remaining js at ps) - length ps

fewer : (js : List Joint) (ps : List ℕ) → length ps ≤ length (waiting js ps)
fewer js [] = omega arith
fewer js (p ∷ ps) = omega (arith, fewer js ps, length-append (rope_at (ropes_of js) (joint_of js p).behind) (waiting js ps))

pub went_down : (arena : List ℕ) (js : List Joint) (whole out : List ℕ) (at : ℕ) (ps : List ℕ) → IsWriting arena js whole out at ps → 0 < at → IsWriting arena js whole out (joint_of js at).before (at ∷ ps)
went_down arena js whole out at ps w some =
    let d : Joint = record { before = 0; segment = record { place = 0; end = 0 }; behind = 0; len = 0 } in
    let fits = AreJoints-get 0 js (at - 1) d w.joints (omega (arith, some, w.there)) in
    record {
      joints = w.joints;
      there = omega (arith, fits.before, w.there, some);
      all = ((some, w.there), w.all);
      within = subst (AreWithin (length arena)) (same_down js at ps w.joints some w.there) w.within;
      told = ap (λ (x : List Segment). out ++ bytes_of arena x) (sym (same_down js at ps w.joints some w.there)) ∙ w.told;
    }
  where
    same_down : (js : List Joint) (at : ℕ) (ps : List ℕ) → AreJoints 0 js → 0 < at → at ≤ length js → remaining js at ps ≡ remaining js (joint_of js at).before (at ∷ ps)
    same_down js at ps f some there =
        ap (λ (x : List Segment). x ++ waiting js ps) (rope_of js at (record { before = 0; segment = record { place = 0; end = 0 }; behind = 0; len = 0 }) f some there)
        ∙ append_assoc (rope_at (ropes_of js) (joint_of js at).before) ((joint_of js at).segment ∷ rope_at (ropes_of js) (joint_of js at).behind) (waiting js ps)

down_turns : (js : List Joint) (at : ℕ) (ps : List ℕ) → AreJoints 0 js → 0 < at → at ≤ length js → turns js (joint_of js at).before (at ∷ ps) < turns js at ps
down_turns js at ps f some there =
    let r = rope_of js at (record { before = 0; segment = record { place = 0; end = 0 }; behind = 0; len = 0 }) f some there in
    let before = rope_at (ropes_of js) (joint_of js at).before in
    let behind = rope_at (ropes_of js) (joint_of js at).behind in
    omega (
      arith,
      ap (λ (x : List Segment). length x) r,
      length-append before ((joint_of js at).segment ∷ behind),
      length-append (rope_at (ropes_of js) at) (waiting js ps),
      length-append before (waiting js (at ∷ ps)),
      length-append behind (waiting js ps),
      fewer js ps,
    )

pub went_on : (arena : List ℕ) (js : List Joint) (whole out more : List ℕ) (p : ℕ) (ps : List ℕ) → IsWriting arena js whole out 0 (p ∷ ps) → more ≡ out ++ bytes_at arena (joint_of js p).segment → IsWriting arena js whole more (joint_of js p).behind ps
went_on arena js whole out more p ps w e =
    let d : Joint = record { before = 0; segment = record { place = 0; end = 0 }; behind = 0; len = 0 } in
    let fits = AreJoints-get 0 js (p - 1) d w.joints (omega (arith, w.all.0.0, w.all.0.1)) in
    let first : remaining js 0 (p ∷ ps) ≡ waiting js (p ∷ ps) = ap (λ (x : List Segment). x ++ waiting js (p ∷ ps)) (first_rope js) in
    let within : AreWithin (length arena) (waiting js (p ∷ ps)) = subst (AreWithin (length arena)) first w.within in
    record {
      joints = w.joints;
      there = omega (arith, fits.behind, w.all.0.0, w.all.0.1);
      all = w.all.1;
      within = within.1;
      told = ap (λ (x : List ℕ). x ++ bytes_of arena (remaining js (joint_of js p).behind ps)) e
          ∙ append_assoc out (bytes_at arena (joint_of js p).segment) (bytes_of arena (remaining js (joint_of js p).behind ps))
          ∙ ap (λ (x : List Segment). out ++ bytes_of arena x) (sym first)
          ∙ w.told;
    }

on_turns : (js : List Joint) (p : ℕ) (ps : List ℕ) → turns js (joint_of js p).behind ps < turns js 0 (p ∷ ps)
on_turns js p ps =
    let behind = rope_at (ropes_of js) (joint_of js p).behind in
    omega (arith, length-append (rope_at (ropes_of js) 0) (waiting js (p ∷ ps)), length-append behind (waiting js ps), fewer js ps)

is_joint : (js : List Joint) (p : ℕ) (j : Joint) → j ≡ get_or js (p - 1) j → 0 < p → p ≤ length js → joint_of js p ≡ j
is_joint js p j e some there =
    get_or_default js (p - 1) (record { before = 0; segment = record { place = 0; end = 0 }; behind = 0; len = 0 }) j (omega (arith, some, there)) ∙ sym e

-- ---- the turns of the loop, whose stack has the newest last

pub began : (ropes : List (List Segment)) (arena : List ℕ) (js : List Joint) (at : ℕ) (out ps : List ℕ) → ropes_of js ≡ ropes → AreJoints 0 js → at < length ropes → AreWithin (length arena) (rope_at ropes at) → ps ≡ [] →
    IsWriting arena js (out ++ bytes_of arena (rope_at ropes at)) out at (reverse ps)
began ropes arena js at out ps is f lt within e =
    let all : remaining js at [] ≡ rope_at ropes at = append-nil (rope_at (ropes_of js) at) ∙ ap (λ (x : List (List Segment)). rope_at x at) is in
    subst (λ (x : List ℕ). IsWriting arena js (out ++ bytes_of arena (rope_at ropes at)) out at (reverse x)) (sym e) (record {
      joints = f;
      there = omega (arith, lt, how_many ropes js is);
      all = tt;
      within = subst (AreWithin (length arena)) (sym all) within;
      told = ap (λ (x : List Segment). out ++ bytes_of arena x) all;
    })

pub down : (arena : List ℕ) (js : List Joint) (whole out : List ℕ) (at : ℕ) (ps qs : List ℕ) (j : Joint) → IsWriting arena js whole out at (reverse ps) → 0 < at → qs ≡ ps ++ at ∷ [] → j ≡ get_or js (at - 1) j → IsWriting arena js whole out j.before (reverse qs)
down arena js whole out at ps qs j w some e is =
    subst (λ (x : List ℕ). IsWriting arena js whole out j.before x) (sym (ap reverse e ∙ reverse-append ps (at ∷ [])))
    (subst (λ (x : Joint). IsWriting arena js whole out x.before (at ∷ reverse ps)) (is_joint js at j is some w.there) (went_down arena js whole out at (reverse ps) w some))

pub down_smaller : (arena : List ℕ) (js : List Joint) (whole out : List ℕ) (at : ℕ) (ps qs : List ℕ) (j : Joint) → IsWriting arena js whole out at (reverse ps) → 0 < at → qs ≡ ps ++ at ∷ [] → j ≡ get_or js (at - 1) j → turns js j.before (reverse qs) < turns js at (reverse ps)
down_smaller arena js whole out at ps qs j w some e is =
    subst (λ (x : List ℕ). turns js j.before x < turns js at (reverse ps)) (sym (ap reverse e ∙ reverse-append ps (at ∷ [])))
    (subst (λ (x : Joint). turns js x.before (at ∷ reverse ps) < turns js at (reverse ps)) (is_joint js at j is some w.there) (down_turns js at (reverse ps) w.joints some w.there))

pub popped : (arena : List ℕ) (js : List Joint) (whole out : List ℕ) (at p : ℕ) (ps qs : List ℕ) → IsWriting arena js whole out at (reverse ps) → at ≡ 0 → ps ≡ qs ++ p ∷ [] → IsWriting arena js whole out 0 (p ∷ reverse qs)
popped arena js whole out at p ps qs w z e =
    subst (λ (x : List ℕ). IsWriting arena js whole out 0 x) (ap reverse e ∙ reverse-append qs (p ∷ []))
    (subst (λ (x : ℕ). IsWriting arena js whole out x (reverse ps)) z w)

pub on : (arena : List ℕ) (js : List Joint) (whole out more : List ℕ) (p : ℕ) (qs : List ℕ) (j : Joint) → IsWriting arena js whole out 0 (p ∷ reverse qs) → j ≡ get_or js (p - 1) j → more ≡ out ++ bytes_at arena j.segment → IsWriting arena js whole more j.behind (reverse qs)
on arena js whole out more p qs j w is e =
    let z = is_joint js p j is w.all.0.0 w.all.0.1 in
    subst (λ (x : Joint). IsWriting arena js whole more x.behind (reverse qs)) z
    (went_on arena js whole out more p (reverse qs) w (e ∙ ap (λ (x : Joint). out ++ bytes_at arena x.segment) (sym z)))

pub on_smaller : (arena : List ℕ) (js : List Joint) (whole out : List ℕ) (at p : ℕ) (ps qs : List ℕ) (j : Joint) → IsWriting arena js whole out 0 (p ∷ reverse qs) → at ≡ 0 → ps ≡ qs ++ p ∷ [] → j ≡ get_or js (p - 1) j → turns js j.behind (reverse qs) < turns js at (reverse ps)
on_smaller arena js whole out at p ps qs j w z e is =
    subst (λ (x : ℕ). turns js j.behind (reverse qs) < turns js x (reverse ps)) (sym z)
    (subst (λ (x : List ℕ). turns js j.behind (reverse qs) < turns js 0 x) (sym (ap reverse e ∙ reverse-append qs (p ∷ [])))
    (subst (λ (x : Joint). turns js x.behind (reverse qs) < turns js 0 (p ∷ reverse qs)) (is_joint js p j is w.all.0.0 w.all.0.1) (on_turns js p (reverse qs))))

pub segment_there : (arena : List ℕ) (js : List Joint) (whole out : List ℕ) (p : ℕ) (qs : List ℕ) (j : Joint) → IsWriting arena js whole out 0 (p ∷ reverse qs) → j ≡ get_or js (p - 1) j → IsSegment (length arena) j.segment
segment_there arena js whole out p qs j w is =
    let within : AreWithin (length arena) (waiting js (p ∷ reverse qs)) = subst (AreWithin (length arena)) (ap (λ (x : List Segment). x ++ waiting js (p ∷ reverse qs)) (first_rope js)) w.within in
    subst (λ (x : Joint). IsSegment (length arena) x.segment) (is_joint js p j is w.all.0.0 w.all.0.1) within.0

pub wrote : (arena : List ℕ) (js : List Joint) (whole out : List ℕ) (at : ℕ) (ps : List ℕ) → IsWriting arena js whole out at (reverse ps) → at ≡ 0 → length ps ≡ 0 → out ≡ whole
wrote arena js whole out at ps w z e =
    let v = subst (λ (x : List ℕ). IsWriting arena js whole out 0 (reverse x)) (nil_from_length ps e) (subst (λ (x : ℕ). IsWriting arena js whole out x (reverse ps)) z w) in
    sym (append-nil out) ∙ ap (λ (x : List Segment). out ++ bytes_of arena x) (sym (append-nil (rope_at (ropes_of js) 0) ∙ first_rope js)) ∙ v.told
