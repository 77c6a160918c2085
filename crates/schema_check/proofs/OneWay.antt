-- Each place has one way by the parents.
use Rattle.std.proofs.Common.{◌≡◌, ℕ, zero, suc, ◌<◌, ◌≤◌, List, [], ◌∷◌, ◌++◌, length, get_or, refl, sym, ap, subst, ◌∙◌, inl, inr, ◌⊎◌, arith}
use Rattle.std.proofs.lemmas.Bool.{cases_lt}
use Rattle.spec_avro.specs.Node.{Node}
use Rattle.spec_avro.specs.Safety.{Pair}
use Rattle.schema_check.specs.OneCheck.{OneWayIsByParents, SomeWayIsByParents}
use Rattle.schema_check.specs.Ways.{AreParents, HasParent, IsByParents, at_place, of_roots, onward, parent_of}

module _ (pairs : List Pair) (parents : List ℕ) where
  -- a way ends at its place, and before that it is the way to the parent
  record Ends (k : ℕ) (ps : List Pair) : Type 0 where
    pub front : List Pair
    pub pos : 0 < k
    pub way : IsByParents pairs parents (parent_of parents k) front
    pub is : ps ≡ front ++ at_place pairs k ∷ []

  last_of : (k : ℕ) (ps : List Pair) → IsByParents pairs parents k ps → ((k ≡ 0) × (ps ≡ at_place pairs 0 ∷ [])) ⊎ Ends k ps
  last_of k ps of_roots = inl (refl, refl)
  last_of k ps (onward {k = n} {ps = front} pos w) = inr (record { front = front; pos = pos; way = w; is = refl })

  way_one : (k : ℕ) (ps qs : List Pair) → IsByParents pairs parents k ps → IsByParents pairs parents k qs → ps ≡ qs
  way_one k ps qs of_roots w = elim (last_of 0 qs w) [
    | inl e ↦ sym e.1
    | inr b ↦ absurd (omega (arith, b.pos))
  ]
  way_one k ps qs (onward {k = n} {ps = front} pos v) w = elim (last_of k qs w) [
    | inl e ↦ absurd (omega (arith, pos, e.0))
    | inr b ↦ ap (λ (x : List Pair). x ++ at_place pairs k ∷ []) (way_one (parent_of parents k) front b.front v b.way) ∙ sym b.is
  ]

  way_there : (W R : List Node) → AreParents W R pairs parents → (n k : ℕ) → k ≤ n → k < length pairs → (way : List Pair) × IsByParents pairs parents k way
  way_there W R t zero k le lt = let top : 0 ≡ k = omega (arith, le) in (at_place pairs 0 ∷ [], subst (λ (m : ℕ). IsByParents pairs parents m (at_place pairs 0 ∷ [])) top of_roots)
  way_there W R t (suc n) k le lt = elim (cases_lt 0 k) [
    | inl pos ↦ (let h : HasParent W R pairs parents k = t.lead k pos lt in let f = way_there W R t n (parent_of parents k) (omega (arith, h.earlier, le)) (omega (arith, h.earlier, lt)) in (f.0 ++ at_place pairs k ∷ [], onward pos f.1))
    | inr none ↦ (let top : 0 ≡ k = omega (arith, none) in (at_place pairs 0 ∷ [], subst (λ (m : ℕ). IsByParents pairs parents m (at_place pairs 0 ∷ [])) top of_roots))
  ]

pub some_way_is_by_parents : SomeWayIsByParents
some_way_is_by_parents W R pairs parents t place lt = way_there pairs parents W R t place place (omega arith) lt

pub one_way_is_by_parents : OneWayIsByParents
one_way_is_by_parents pairs parents place way other v w = way_one pairs parents place way other v w

-- ---- one list of parents

same_lists : (a b : List ℕ) → length a ≡ length b → ((k : ℕ) → k < length a → get_or a k 0 ≡ get_or b k 0) → a ≡ b
same_lists [] [] e h = refl
same_lists [] (y ∷ b) e h = absurd (omega (arith, e))
same_lists (x ∷ a) [] e h = absurd (omega (arith, e))
same_lists (x ∷ a) (y ∷ b) e h =
    let front : x ≡ y = h 0 (omega arith) in
    let rest : a ≡ b = same_lists a b (omega (arith, e)) (λ k lt. h (suc k) (omega (arith, lt))) in
    ap (λ (n : ℕ). n ∷ a) front ∙ ap (λ (ns : List ℕ). y ∷ ns) rest

module _ (W R : List Node) (pairs : List Pair) (a b : List ℕ) (ours : AreParents W R pairs a) (theirs : AreParents W R pairs b) where
  one_parent : (k : ℕ) → 0 < k → k < length pairs → get_or a k 0 ≡ get_or b k 0
  one_parent k pos lt =
      let x : HasParent W R pairs a k = ours.lead k pos lt in
      let y : HasParent W R pairs b k = theirs.lead k pos lt in
      elim (cases_lt (get_or a k 0) (get_or b k 0)) [
        | inl sooner ↦ absurd (y.first (get_or a k 0) sooner x.leads)
        | inr le ↦ elim (cases_lt (get_or b k 0) (get_or a k 0)) [
          | inl sooner ↦ absurd (x.first (get_or b k 0) sooner y.leads)
          | inr ge ↦ omega (arith, le, ge)
        ]
      ]

  each_parent : (k : ℕ) → k < length pairs → get_or a k 0 ≡ get_or b k 0
  each_parent k lt = elim (cases_lt 0 k) [
    | inl pos ↦ one_parent k pos lt
    | inr le ↦ (let top : 0 ≡ k = omega (arith, le) in subst (λ (n : ℕ). get_or a n 0 ≡ get_or b n 0) top (ours.none ∙ sym theirs.none))
  ]

  pub one_list_of_parents : a ≡ b
  one_list_of_parents = same_lists a b (ours.each ∙ sym theirs.each) (λ k lt. each_parent k (omega (arith, lt, ours.each)))
