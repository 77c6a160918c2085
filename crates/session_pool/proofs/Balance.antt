-- Each move of a job keeps the rule.
use Rattle.std.proofs.Common.{◌≡◌, ◌≢◌, ℕ, zero, suc, ◌+◌, List, [], ◌∷◌, ◌++◌, set, subst, sym, refl, ap, ◌∙◌, ⊎_elim, append_assoc, arith}
use mathlib.Core.Option.{some, some-injective, some-ne-none}
use lib.ListN.{get_elem?}
use Rattle.crossbeam_deque.specs.Tasks.{Admits, Pushes, Takes}
use Rattle.crossbeam_deque.proofs.Lists.{at_longer, at_set, at_snoc}
use Rattle.session_pool.specs.declared.seat.Tally.{Tally}
use Rattle.session_pool.specs.Tallies.{Balances, IsInOrder, IsSubsequence, LeavesInOrder, tally, times, total}
use Rattle.session_pool.specs.Tallies.IsSubsequence.{none, passed, taken}

total_set : (f : Tally → ℕ) (views : List Tally) (port : ℕ) (v w : Tally) → get_elem? views port ≡ some v → total f (set views port w) + f v ≡ total f views + f w
total_set f [] port v w e = absurd (some-ne-none v (sym e))
total_set f (u ∷ us) zero v w e = omega (arith, ap f (some-injective u v e))
total_set f (u ∷ us) (suc k) v w e = omega (arith, total_set f us k v w e)

times_append : (x : ℕ) (xs ys : List ℕ) → times x (xs ++ ys) ≡ times x xs + times x ys
times_append x [] ys = omega arith
times_append x (y ∷ xs) ys = omega (arith, times_append x xs ys)

-- ---- what was taken, in order

nothing_of : (ys : List ℕ) → IsSubsequence [] ys
nothing_of [] = none
nothing_of (y ∷ ys) = passed y [] ys (nothing_of ys)

all_of : (ys : List ℕ) → IsSubsequence ys ys
all_of [] = none
all_of (y ∷ ys) = taken y ys ys (all_of ys)

-- more left, which it did not take
of_longer : (xs ys more : List ℕ) → IsSubsequence xs ys → IsSubsequence xs (ys ++ more)
of_longer [] [] more none = nothing_of more
of_longer (x ∷ xs) [] more h = elim h [ ]
of_longer (x ∷ xs) (y ∷ ys) more (taken _ _ _ h) = taken x xs (ys ++ more) (of_longer xs ys more h)
of_longer xs (y ∷ ys) more (passed _ _ _ h) = passed y xs (ys ++ more) (of_longer xs ys more h)

-- more left, all of which it took
longer_of : (xs ys more : List ℕ) → IsSubsequence xs ys → IsSubsequence (xs ++ more) (ys ++ more)
longer_of [] [] more none = all_of more
longer_of (x ∷ xs) [] more h = elim h [ ]
longer_of (x ∷ xs) (y ∷ ys) more (taken _ _ _ h) = taken x (xs ++ more) (ys ++ more) (longer_of xs ys more h)
longer_of xs (y ∷ ys) more (passed _ _ _ h) = passed y (xs ++ more) (ys ++ more) (longer_of xs ys more h)

-- the first of the views once one is another
first_set : (views : List Tally) (port : ℕ) (u v w : Tally) → get_elem? views port ≡ some v → get_elem? views 0 ≡ some u → w.put ≡ v.put → (t : Tally) × (get_elem? (set views port w) 0 ≡ some t) × (t.put ≡ u.put)
first_set [] port u v w at first same = absurd (some-ne-none u (sym first))
first_set (x ∷ xs) zero u v w at first same = (w, refl, same ∙ ap (λ (t : Tally). t.put) (sym (some-injective x v at) ∙ some-injective x u first))
first_set (x ∷ xs) (suc k) u v w at first same = (u, first, refl)

put_first : (views : List Tally) (v w : Tally) → get_elem? views 0 ≡ some v → get_elem? (set views 0 w) 0 ≡ some w
put_first [] v w at = absurd (some-ne-none v (sym at))
put_first (x ∷ xs) v w at = refl

-- ---- the moves

module _ (v : Tally) (xs items : List ℕ) (views : List Tally) where
  puts_evenly : Balances items views → get_elem? views 0 ≡ some v → Balances (items ++ xs) (set views 0 (tally (v.put ++ xs) v.taken))
  puts_evenly h at = let w : Tally = tally (v.put ++ xs) v.taken in record {
    balance = λ x. omega (arith, h.balance x, total_set (λ u. times x u.put) views 0 v w at, total_set (λ u. times x u.taken) views 0 v w at, times_append x v.put xs, times_append x items xs);
    owner = λ j u e ne. ⊎_elim (λ (t : (j ≡ 0) × (w ≡ u)). absurd (ne t.0)) (λ (t : (j ≢ 0) × (get_elem? views j ≡ some u)). h.owner j u t.1 ne) (at_set views 0 j w u e);
  }

  puts_last : LeavesInOrder items views → get_elem? views 0 ≡ some v → LeavesInOrder (items ++ xs) (set views 0 (tally (v.put ++ xs) v.taken))
  puts_last h at = let w : Tally = tally (v.put ++ xs) v.taken in record {
    owner = w;
    first = put_first views v w at;
    left = h.left;
    put = ap (λ (t : Tally). t.put ++ xs) (some-injective v h.owner (sym at ∙ h.first)) ∙ (ap (λ (l : List ℕ). l ++ xs) h.put ∙ append_assoc h.left items xs);
    each = λ j u e. ⊎_elim (λ (t : (j ≡ 0) × (w ≡ u)). subst (λ (y : Tally). IsSubsequence y.taken h.left) t.1 (h.each 0 v at)) (λ (t : (j ≢ 0) × (get_elem? views j ≡ some u)). h.each j u t.1) (at_set views 0 j w u e);
  }

  gets_evenly : (port : ℕ) → Balances (xs ++ items) views → get_elem? views port ≡ some v → Balances items (set views port (tally v.put (v.taken ++ xs)))
  gets_evenly port h at = let w : Tally = tally v.put (v.taken ++ xs) in record {
    balance = λ x. omega (arith, h.balance x, total_set (λ u. times x u.put) views port v w at, total_set (λ u. times x u.taken) views port v w at, times_append x v.taken xs, times_append x xs items);
    owner = λ j u e ne. ⊎_elim (λ (t : (j ≡ port) × (w ≡ u)). ap (λ (y : Tally). y.put) (sym t.1) ∙ h.owner port v at (λ z. ne (t.0 ∙ z))) (λ (t : (j ≢ port) × (get_elem? views j ≡ some u)). h.owner j u t.1 ne) (at_set views port j w u e);
  }

  gets_first : (port : ℕ) → LeavesInOrder (xs ++ items) views → get_elem? views port ≡ some v → LeavesInOrder items (set views port (tally v.put (v.taken ++ xs)))
  gets_first port h at = let w : Tally = tally v.put (v.taken ++ xs) in let f = first_set views port h.owner v w at h.first refl in record {
    owner = f.0;
    first = f.1;
    left = h.left ++ xs;
    put = f.2 ∙ (h.put ∙ sym (append_assoc h.left xs items));
    each = λ j u e. ⊎_elim (λ (t : (j ≡ port) × (w ≡ u)). subst (λ (y : Tally). IsSubsequence y.taken (h.left ++ xs)) t.1 (longer_of v.taken h.left xs (h.each port v at))) (λ (t : (j ≢ port) × (get_elem? views j ≡ some u)). of_longer u.taken h.left xs (h.each j u t.1)) (at_set views port j w u e);
  }

  -- the owner knows what it put, so it knows that it took in that order
  takes_in_order : LeavesInOrder (xs ++ items) views → get_elem? views 0 ≡ some v → IsSubsequence (v.taken ++ xs) v.put
  takes_in_order h at =
      let put : v.put ≡ (h.left ++ xs) ++ items = ap (λ (t : Tally). t.put) (some-injective v h.owner (sym at ∙ h.first)) ∙ (h.put ∙ sym (append_assoc h.left xs items)) in
      subst (λ (l : List ℕ). IsSubsequence (v.taken ++ xs) l) (sym put) (of_longer (v.taken ++ xs) (h.left ++ xs) items (longer_of v.taken h.left xs (h.each 0 v at)))

pub puts : (port : ℕ) (v : Tally) (xs : List ℕ) → port ≡ 0 → Pushes IsInOrder port v xs (λ w. w ≡ tally (v.put ++ xs) v.taken)
puts port v xs mine = subst (λ (k : ℕ). Pushes IsInOrder k v xs (λ w. w ≡ tally (v.put ++ xs) v.taken)) (sym mine)
    (λ items views h at. (tally (v.put ++ xs) v.taken, (puts_evenly v xs items views h.0 at, puts_last v xs items views h.1 at), refl))

pub gets : (port : ℕ) (v : Tally) → Takes IsInOrder port v 1 (λ xs w. w ≡ tally v.put (v.taken ++ xs))
gets port v xs items views _ _ h at = (tally v.put (v.taken ++ xs), (gets_evenly v xs items views port h.0 at, gets_first v xs items views port h.1 at), refl)

pub gets_own : (port : ℕ) (v : Tally) → port ≡ 0 → Takes IsInOrder port v 1 (λ xs w. (w ≡ tally v.put (v.taken ++ xs)) × IsSubsequence w.taken w.put)
gets_own port v mine xs items views _ _ h at = (
  tally v.put (v.taken ++ xs),
  (gets_evenly v xs items views port h.0 at, gets_first v xs items views port h.1 at),
  (refl, takes_in_order v xs items views h.1 (subst (λ (k : ℕ). get_elem? views k ≡ some v) mine at)),
)

-- ---- the beginning

first_owner : (port : ℕ) (v : Tally) → get_elem? (tally [] [] ∷ []) port ≡ some v → port ≢ 0 → v.put ≡ []
first_owner zero v e ne = absurd (ne refl)
first_owner (suc j) v e ne = absurd (some-ne-none v (sym e))

first_taken : (port : ℕ) (v : Tally) → get_elem? (tally [] [] ∷ []) port ≡ some v → IsSubsequence v.taken []
first_taken zero v e = subst (λ (t : Tally). IsSubsequence t.taken []) (some-injective (tally [] []) v e) none
first_taken (suc j) v e = absurd (some-ne-none v (sym e))

-- one pass, which has put and taken nothing
pub starts : IsInOrder [] (tally [] [] ∷ [])
starts = (record { balance = λ x. refl; owner = first_owner }, record { owner = tally [] []; first = refl; left = []; put = refl; each = first_taken })

total_new : (f : Tally → ℕ) (views : List Tally) (v : Tally) → f v ≡ 0 → total f (views ++ v ∷ []) ≡ total f views
total_new f [] v e = omega arith
total_new f (u ∷ us) v e = omega (arith, total_new f us v e)

-- one pass more, which has put and taken nothing
pub admits : Admits IsInOrder (tally [] [])
admits items views h = (
  record {
    balance = λ x. omega (arith, h.0.balance x, total_new (λ u. times x u.put) views (tally [] []) refl, total_new (λ u. times x u.taken) views (tally [] []) refl);
    owner = λ j u e ne. ⊎_elim (λ (t : get_elem? views j ≡ some u). h.0.owner j u t ne) (λ (t : tally [] [] ≡ u). ap (λ (y : Tally). y.put) (sym t)) (at_snoc views (tally [] []) u j e);
  },
  record {
    owner = h.1.owner;
    first = at_longer views (tally [] [] ∷ []) 0 h.1.owner h.1.first;
    left = h.1.left;
    put = h.1.put;
    each = λ j u e. ⊎_elim (λ (t : get_elem? views j ≡ some u). h.1.each j u t) (λ (t : tally [] [] ≡ u). subst (λ (y : Tally). IsSubsequence y.taken h.1.left) t (nothing_of h.1.left)) (at_snoc views (tally [] []) u j e);
  },
)
