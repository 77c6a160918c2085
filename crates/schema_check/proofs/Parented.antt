-- A pair that is added has the pair whose turn it is as its parent.
use Rattle.std.proofs.Common.{◌≡◌, ℕ, zero, suc, ◌+◌, ◌-◌, ◌<◌, ◌≤◌, List, [], ◌∷◌, ◌++◌, length, get_or, replicate, take, refl, sym, ap, subst, ◌∙◌, inl, inr, ◌⊎◌, arith}
use Rattle.std.proofs.lemmas.Bool.{cases_lt}
use Rattle.std.proofs.lemmas.List.{length-append, length-replicate, get_or_append_left, get_or-append_right, get_or-replicate, get_or_default}
use Rattle.std.specs.List.{AllByRecursion}
use Rattle.spec_avro.specs.Node.{Node}
use Rattle.resolver.specs.NextPairs.{Among, next_pairs}
use Rattle.spec_avro.specs.Safety.{LeadsTo, Pair}
use Rattle.resolver.proofs.Leading.{among_leads, leads_among}
use Rattle.schema_check.specs.Pairs.{AreOnce, with_all, with_one}
use Rattle.schema_check.specs.Walk.{IsWalk}
use Rattle.schema_check.specs.Ways.{AreParents, HasParent}
use Rattle.schema_check.proofs.Walked.{LeadsInto, grown, walked}
use Rattle.resolver.specs.Laws.Plain.{among_one}

in_list : (xs : List Pair) (k : ℕ) → k < length xs → Among (get_or xs k (0, 0)) xs
in_list [] k lt = absurd (omega arith)
in_list (x ∷ xs) zero lt = inl refl
in_list (x ∷ xs) (suc k) lt = inr (in_list xs k (omega arith))

among_after : (q : Pair) (ps extra : List Pair) → Among q extra → Among q (ps ++ extra)
among_after q [] extra a = a
among_after q (p ∷ ps) extra a = inr (among_after q ps extra a)

apart : (ps extra : List Pair) → AreOnce (ps ++ extra) → (q : Pair) → Among q ps → Among q extra → ⊥
apart [] extra o q a b = absurd a
apart (x ∷ ps) extra o q (inl e) b = o.0 (subst (λ (y : Pair). Among y (ps ++ extra)) e (among_after q ps extra b))
apart (x ∷ ps) extra o q (inr a) b = apart ps extra o.1 q a b

taken : (P : Pair → Type 0) (ps : List Pair) (i j : ℕ) → AllByRecursion P (take i ps) → j < i → j < length ps → P (get_or ps j (0, 0))
taken P [] i j a lt le = absurd (omega (arith, le))
taken P (x ∷ ps) zero j a lt le = absurd (omega (arith, lt))
taken P (x ∷ ps) (suc i) zero a lt le = a.0
taken P (x ∷ ps) (suc i) (suc j) a lt le = taken P ps i j a.1 (omega (arith, lt)) (omega (arith, le))

module _ (W R : List Node) where
  in_next : (extra qs : List Pair) (k : ℕ) → AllByRecursion (λ q. Among q qs) extra → k < length extra → Among (get_or extra k (0, 0)) qs
  in_next [] qs k a lt = absurd (omega arith)
  in_next (x ∷ xs) qs zero a lt = a.0
  in_next (x ∷ xs) qs (suc k) a lt = in_next xs qs k a.1 (omega arith)

  pub parents_on : (i : ℕ) (p : Pair) (old new : List Pair) (parents : List ℕ) → IsWalk W R i old → AreParents W R old parents → i < length old → p ≡ get_or old i p → new ≡ with_all old (next_pairs W R p) → AreParents W R new (parents ++ replicate (length new - length parents) i)
  parents_on i p old new parents w t lt at is =
      let g = grown old (next_pairs W R p) in
      let whole : new ≡ old ++ g.extra = is ∙ g.is in
      let long : length new ≡ length old + length g.extra = ap length whole ∙ length-append old g.extra in
      let many : length (replicate (length new - length parents) i) ≡ length new - length parents = length-replicate (length new - length parents) i in
      let some : 0 < length old = omega (arith, lt) in
      record {
        each = length-append parents (replicate (length new - length parents) i) ∙ omega (arith, many, t.each, long);
        top = ap (λ (x : List Pair). get_or x 0 (0, 0)) whole ∙ get_or_append_left old g.extra (0, 0) 0 some ∙ t.top;
        none = get_or_append_left parents (replicate (length new - length parents) i) 0 0 (omega (arith, some, t.each)) ∙ t.none;
        lead = λ k pos below. by_side k pos below (cases_lt k (length old));
      } where
        -- what an earlier pair leads to is no new pair
        new_to : (o q : Pair) (extra : List Pair) → AreOnce (old ++ extra) → LeadsInto W R old o → Among q extra → LeadsTo W R o q → ⊥
        new_to o q extra once closed there leads = apart old extra once q (among_one old (next_pairs W R o) closed q (leads_among W R o q leads)) there

        by_side : (k : ℕ) → 0 < k → k < length new → (k < length old) ⊎ (length old ≤ k) → HasParent W R new (parents ++ replicate (length new - length parents) i) k
        by_side k pos below (inl h) =
            let g = grown old (next_pairs W R p) in
            let whole : new ≡ old ++ g.extra = is ∙ g.is in
            let was = t.lead k pos h in
            let hp : k < length parents = omega (arith, t.each) in
            let parent : get_or (parents ++ replicate (length new - length parents) i) k 0 ≡ get_or parents k 0 = get_or_append_left parents (replicate (length new - length parents) i) 0 k hp in
            let le : get_or parents k 0 < length old = omega (arith, was.earlier) in
            let from : get_or new (get_or parents k 0) (0, 0) ≡ get_or old (get_or parents k 0) (0, 0) = ap (λ (x : List Pair). get_or x (get_or parents k 0) (0, 0)) whole ∙ get_or_append_left old g.extra (0, 0) (get_or parents k 0) le in
            let to : get_or new k (0, 0) ≡ get_or old k (0, 0) = ap (λ (x : List Pair). get_or x k (0, 0)) whole ∙ get_or_append_left old g.extra (0, 0) k h in
            record {
              earlier = rw parent was.earlier;
              leads = rw (parent, from, to) was.leads;
              first = λ j before leads.
                  let sooner : j < get_or parents k 0 = rw parent at before in
                  let lj : j < length old = omega (arith, sooner, le) in
                  let there : get_or new j (0, 0) ≡ get_or old j (0, 0) = ap (λ (x : List Pair). get_or x j (0, 0)) whole ∙ get_or_append_left old g.extra (0, 0) j lj in
                  was.first j sooner (rw (there, to) at leads);
            }
        by_side k pos below (inr h) =
            let g = grown old (next_pairs W R p) in
            let whole : new ≡ old ++ g.extra = is ∙ g.is in
            let long : length new ≡ length old + length g.extra = ap length whole ∙ length-append old g.extra in
            let hp : length parents ≤ k = omega (arith, t.each) in
            let lk : k - length old < length g.extra = omega (arith, long, below, h) in
            let lr : k - length parents < length new - length parents = omega (arith, below, hp) in
            let parent : get_or (parents ++ replicate (length new - length parents) i) k 0 ≡ i = get_or-append_right parents (replicate (length new - length parents) i) (length parents) k 0 refl hp ∙ get_or-replicate (length new - length parents) (k - length parents) i 0 lr in
            let from : get_or new i (0, 0) ≡ p = ap (λ (x : List Pair). get_or x i (0, 0)) whole ∙ get_or_append_left old g.extra (0, 0) i lt ∙ get_or_default old i (0, 0) p lt ∙ sym at in
            let to : get_or new k (0, 0) ≡ get_or g.extra (k - length old) (0, 0) = ap (λ (x : List Pair). get_or x k (0, 0)) whole ∙ get_or-append_right old g.extra (length old) k (0, 0) refl h in
            record {
              earlier = rw parent (let e : i < k = omega (arith, lt, h) in e);
              leads = rw (parent, from, to) (among_leads W R p (get_or g.extra (k - length old) (0, 0)) (in_next g.extra (next_pairs W R p) (k - length old) g.only lk));
              first = λ j before leads.
                  let sooner : j < i = rw parent at before in
                  let lj : j < length old = omega (arith, sooner, lt) in
                  let there : get_or new j (0, 0) ≡ get_or old j (0, 0) = ap (λ (x : List Pair). get_or x j (0, 0)) whole ∙ get_or_append_left old g.extra (0, 0) j lj in
                  new_to (get_or old j (0, 0)) (get_or g.extra (k - length old) (0, 0)) g.extra (subst AreOnce g.is (g.once (walked W R i old w).once)) (taken (LeadsInto W R old) old i j (walked W R i old w).closed sooner lj) (in_list g.extra (k - length old) lk) (rw (there, to) at leads);
            }

  pub parents_first : (old new : List Pair) (parents : List ℕ) → old ≡ [] → new ≡ with_one old (0, 0) → parents ≡ 0 ∷ [] → AreParents W R new parents
  parents_first old new parents e is one =
      let whole : new ≡ (0, 0) ∷ [] = is ∙ ap (λ (x : List Pair). with_one x (0, 0)) e in
      rw (whole, one) (record { each = refl; top = refl; none = refl; lead = λ k pos below. absurd (omega (arith, pos, below)) })
