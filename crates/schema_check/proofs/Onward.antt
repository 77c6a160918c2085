-- A way that is read back from its end.
use Rattle.std.proofs.Common.{◌≡◌, ℕ, ◌<◌, List, [], ◌∷◌, ◌++◌, length, get_or, reverse, sym, ap, subst, ◌∙◌, append_assoc, arith}
use Rattle.std.proofs.lemmas.List.{reverse-append}
use Rattle.spec_avro.specs.Node.{Node}
use Rattle.spec_avro.specs.Safety.{Pair}
use Rattle.schema_check.specs.Ways.{AreParents, HasParent, IsByParents, IsWay, at_place, at_roots, further, of_roots, onward, parent_of}
use Rattle.schema_check.proofs.Walked.{append_nil}

module _ (pairs : List Pair) (parents : List ℕ) where
  -- each way to this place goes on, by the pairs that were read back, to the one from which they were
  abbrev pub GoesOn : ℕ → List Pair → ℕ → Type 0
  GoesOn at back place = (ps : List Pair) → IsByParents pairs parents at ps → IsByParents pairs parents place (ps ++ reverse back)

  pub goes_first : (place : ℕ) (back : List Pair) → back ≡ [] → GoesOn place back place
  goes_first place back none ps w = rw none (subst (λ (x : List Pair). IsByParents pairs parents place x) (append_nil ps) w)

  goes_back : (at place : ℕ) (back : List Pair) → 0 < at → GoesOn at back place → GoesOn (parent_of parents at) (back ++ at_place pairs at ∷ []) place
  goes_back at place back pos g ps w =
      let e : (ps ++ at_place pairs at ∷ []) ++ reverse back ≡ ps ++ reverse (back ++ at_place pairs at ∷ []) = append_assoc ps (at_place pairs at ∷ []) (reverse back) ∙ ap (λ (x : List Pair). ps ++ x) (sym (reverse-append back (at_place pairs at ∷ []))) in
      subst (λ (x : List Pair). IsByParents pairs parents place x) e (g (ps ++ at_place pairs at ∷ []) (onward pos w))

  pub back_on : (at to place : ℕ) (p : Pair) (back new : List Pair) → 0 < at → GoesOn at back place → p ≡ get_or pairs at (0, 0) → to ≡ get_or parents at 0 → new ≡ back ++ p ∷ [] → GoesOn to new place
  back_on at to place p back new pos g is its longer = rw (its, longer, is) (goes_back at place back pos g)

  pub back_whole : (place : ℕ) (p : Pair) (back new : List Pair) → GoesOn 0 back place → p ≡ get_or pairs 0 (0, 0) → new ≡ back ++ p ∷ [] → IsByParents pairs parents place (reverse new)
  back_whole place p back new g is longer =
      rw (longer, is) (subst (λ (x : List Pair). IsByParents pairs parents place x) (sym (reverse-append back (at_place pairs 0 ∷ []))) (g (at_place pairs 0 ∷ []) of_roots))

-- by its parents a pair is reached
pub way_by : (W R : List Node) (pairs : List Pair) (parents : List ℕ) → AreParents W R pairs parents → (k : ℕ) (ps : List Pair) → IsByParents pairs parents k ps → k < length pairs → IsWay W R ps (get_or pairs k (0, 0))
way_by W R pairs parents t k ps of_roots lt = rw t.top at_roots
way_by W R pairs parents t k ps (onward {ps = qs} pos w) lt =
    let h : HasParent W R pairs parents k = t.lead k pos lt in
    further (way_by W R pairs parents t (parent_of parents k) qs w (omega (arith, h.earlier, lt))) h.leads
