-- The walk from the roots ends, and with one list.
use Rattle.std.proofs.Common.{◌≡◌, ℕ, zero, suc, ◌+◌, ◌-◌, ◌*◌, ◌<◌, ◌≤◌, List, [], ◌∷◌, ◌++◌, length, get_or, replicate, slice_get, Some, refl, sym, ap, subst, ◌∙◌, inl, inr, ◌⊎◌, arith}
use Rattle.std.proofs.lemmas.Bool.{cases_lt}
use Rattle.std.proofs.lemmas.List.{get_or_default}
use Rattle.spec_avro.specs.Node.{Node}
use Rattle.spec_avro.specs.WellFormed.{IsWellFormed}
use Rattle.resolver.specs.NextPairs.{next_pairs}
use Rattle.spec_avro.specs.Safety.{Pair}
use Rattle.schema_check.specs.BadPairs.{bad_among}
use Rattle.schema_check.specs.OneCheck.{OneIsFound, SomeAreFound}
use Rattle.schema_check.specs.Ways.{AreParents}
use Rattle.schema_check.specs.Pairs.{with_all}
use Rattle.schema_check.specs.Walk.{AreInOrder, IsWalk, begun, turn}
use Rattle.schema_check.proofs.BadOnes.{are_bad_pairs}
use Rattle.schema_check.proofs.Bounded.{all_within, few_pairs}
use Rattle.schema_check.proofs.OneWay.{one_list_of_parents}
use Rattle.schema_check.proofs.Parented.{parents_first, parents_on}
use Rattle.schema_check.proofs.Walked.{at_place, got, walked}

past_end : (ps : List Pair) (p : Pair) → slice_get ps (length ps) ≡ Some p → ⊥
past_end ps p e = let g = got ps (length ps) p e in absurd (omega (arith, g.0))

module _ (W R : List Node) where
  -- ---- one list

  -- the walk before its last turn
  record Before (i : ℕ) (ps : List Pair) : Type 0 where
    pub j : ℕ
    pub qs : List Pair
    pub p : Pair
    pub count : i ≡ suc j
    pub walk : IsWalk W R j qs
    pub at : slice_get qs j ≡ Some p
    pub is : ps ≡ with_all qs (next_pairs W R p)

  last_turn : (i : ℕ) (ps : List Pair) → IsWalk W R i ps → ((i ≡ 0) × (ps ≡ (0, 0) ∷ [])) ⊎ Before i ps
  last_turn i ps begun = inl (refl, refl)
  last_turn i ps (turn {i = j} {ps = qs} {p = p} w at) = inr (record { j = j; qs = qs; p = p; count = refl; walk = w; at = at; is = refl })

  walk_none : (ps : List Pair) → IsWalk W R 0 ps → ps ≡ (0, 0) ∷ []
  walk_none ps w = elim (last_turn 0 ps w) [
    | inl e ↦ e.1
    | inr b ↦ absurd (omega (arith, b.count))
  ]

  walk_some : (i : ℕ) (ps : List Pair) → IsWalk W R (suc i) ps → (qs : List Pair) × (p : Pair) × IsWalk W R i qs × (slice_get qs i ≡ Some p) × (ps ≡ with_all qs (next_pairs W R p))
  walk_some i ps w = elim (last_turn (suc i) ps w) [
    | inl e ↦ absurd (omega (arith, e.0))
    | inr b ↦ (let same : b.j ≡ i = omega (arith, b.count) in (b.qs, b.p, subst (λ (n : ℕ). IsWalk W R n b.qs) same b.walk, subst (λ (n : ℕ). slice_get b.qs n ≡ Some b.p) same b.at, b.is))
  ]

  walk_one : (i : ℕ) (ps qs : List Pair) → IsWalk W R i ps → IsWalk W R i qs → ps ≡ qs
  walk_one zero ps qs v w = walk_none ps v ∙ sym (walk_none qs w)
  walk_one (suc i) ps qs v w =
      let a = walk_some i ps v in
      let b = walk_some i qs w in
      let same : a.0 ≡ b.0 = walk_one i a.0 b.0 a.2 b.2 in
      let both : Some a.1 ≡ Some b.1 = sym a.3 ∙ ap (λ (x : List Pair). slice_get x i) same ∙ b.3 in
      let pair : a.1 ≡ b.1 = cc in
      a.4 ∙ ap (λ (x : List Pair). with_all x (next_pairs W R a.1)) same ∙ ap (λ (p : Pair). with_all b.0 (next_pairs W R p)) pair ∙ sym b.4

  walk_before : (j : ℕ) (qs : List Pair) → IsWalk W R j qs → (i : ℕ) → i < j → (ps : List Pair) × (p : Pair) × IsWalk W R i ps × (slice_get ps i ≡ Some p)
  walk_before j qs begun i lt = absurd (omega (arith, lt))
  walk_before j qs (turn {i = k} {ps = ps} {p = p} w at) i lt = elim (cases_lt i k) [
    | inl h ↦ walk_before k ps w i h
    | inr h ↦ (let same : k ≡ i = omega (arith, h, lt) in (ps, p, subst (λ (n : ℕ). IsWalk W R n ps) same w, subst (λ (n : ℕ). slice_get ps n ≡ Some p) same at))
  ]

  not_longer : (ps qs : List Pair) → AreInOrder W R ps → AreInOrder W R qs → length ps < length qs → ⊥
  not_longer ps qs v w lt =
      let f = walk_before (length qs) qs w (length ps) lt in
      let same : f.0 ≡ ps = walk_one (length ps) f.0 ps f.2 v in
      past_end ps f.1 (subst (λ (x : List Pair). slice_get x (length ps) ≡ Some f.1) same f.3)

  order_one : (ps qs : List Pair) → AreInOrder W R ps → AreInOrder W R qs → ps ≡ qs
  order_one ps qs v w = elim (cases_lt (length ps) (length qs)) [
    | inl lt ↦ absurd (not_longer ps qs v w lt)
    | inr le ↦ elim (cases_lt (length qs) (length ps)) [
      | inl lt ↦ absurd (not_longer qs ps w v lt)
      | inr ge ↦ (let same : length qs ≡ length ps = omega (arith, le, ge) in walk_one (length ps) ps qs v (subst (λ (n : ℕ). IsWalk W R n qs) same w))
    ]
  ]

pub one_is_found : OneIsFound
one_is_found W R pairs others parents theirs bad further a b =
    let same : pairs ≡ others = order_one W R pairs others a.bad_pairs.in_order b.bad_pairs.in_order in
    let its : AreParents W R pairs theirs = subst (λ (x : List Pair). AreParents W R x theirs) (sym same) b.with_parents in
    (same, one_list_of_parents W R pairs parents theirs a.with_parents its, a.bad_pairs.among ∙ ap (bad_among W R 0) same ∙ sym b.bad_pairs.among)

-- ---- some list

module _ (W R : List Node) (writer : IsWellFormed W) (reader : IsWellFormed R) where
  few : (i : ℕ) (ps : List Pair) → IsWalk W R i ps → length ps ≤ length W * length R
  few i ps w = let k = walked W R i ps w in few_pairs (length W) (length R) ps k.once (all_within W R writer reader ps k.reached)

  record Ended : Type 0 where
    pub pairs : List Pair
    pub parents : List ℕ
    pub in_order : AreInOrder W R pairs
    pub with_parents : AreParents W R pairs parents

  at_end : (i : ℕ) (ps : List Pair) (parents : List ℕ) → IsWalk W R i ps → AreParents W R ps parents → length ps ≤ i → Ended
  at_end i ps parents w t le =
      let same : i ≡ length ps = omega (arith, (walked W R i ps w).bound, le) in
      record { pairs = ps; parents = parents; in_order = subst (λ (n : ℕ). IsWalk W R n ps) same w; with_parents = t }

  walk_all : (n i : ℕ) (ps : List Pair) (parents : List ℕ) → IsWalk W R i ps → AreParents W R ps parents → length W * length R ≤ i + n → Ended
  walk_all zero i ps parents w t le = at_end i ps parents w t (omega (arith, few i ps w, le))
  walk_all (suc n) i ps parents w t le = elim (cases_lt i (length ps)) [
    | inl lt ↦ (
        let at : get_or ps i (0, 0) ≡ get_or ps i (get_or ps i (0, 0)) = get_or_default ps i (0, 0) (get_or ps i (0, 0)) lt in
        walk_all n (suc i) (with_all ps (next_pairs W R (get_or ps i (0, 0)))) (parents ++ replicate (length (with_all ps (next_pairs W R (get_or ps i (0, 0)))) - length parents) i) (turn w (at_place ps i (get_or ps i (0, 0)) lt at))
        (parents_on W R i (get_or ps i (0, 0)) ps (with_all ps (next_pairs W R (get_or ps i (0, 0)))) parents w t lt at refl) (omega (arith, le)))
    | inr ge ↦ at_end i ps parents w t ge
  ]

pub some_are_found : SomeAreFound
some_are_found W R writer reader =
    let f = walk_all W R writer reader (length W * length R) 0 ((0, 0) ∷ []) (0 ∷ []) begun (parents_first W R [] ((0, 0) ∷ []) (0 ∷ []) refl refl refl) (omega arith) in
    (f.pairs, f.parents, bad_among W R 0 f.pairs, record { bad_pairs = are_bad_pairs W R f.pairs (bad_among W R 0 f.pairs) f.in_order refl; with_parents = f.with_parents })
