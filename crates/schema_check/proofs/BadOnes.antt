-- The bad ones of the pairs of a walk.
use Rattle.std.proofs.Common.{◌≡◌, ℕ, suc, ◌+◌, ◌<◌, ◌≤◌, List, [], ◌∷◌, ◌++◌, length, take, get_or, slice_get, Option, Some, None, refl, sym, ap, subst, ◌∙◌, inl, inr, arith, append_assoc}
use Rattle.std.proofs.lemmas.List.{take-append-le, take_more, length-append, length-take-le}
use Rattle.std.proofs.Math.Seq.{take-length}
use Rattle.std.specs.List.{AllByRecursion}
use Rattle.spec_avro.specs.Node.{Node}
use Rattle.spec_avro.specs.declared.mismatch.MismatchKind.{MismatchKind}
use Rattle.resolver.specs.NextPairs.{Among, next_pairs}
use Rattle.resolver.specs.Pairs as of_nodes
use Rattle.spec_avro.specs.Safety.{IsSafe, Pair, Reached}
use Rattle.schema_check.specs.BadKinds.{IsBadBy, kind_of}
use Rattle.schema_check.specs.BadPairs.{AreBadPairs, AreWithin, IsBadThere, IsListed, bad_among, bad_pair, entry, pair_of, pairs_of}
use Rattle.schema_check.specs.Pairs.{AreOnce, with_all}
use Rattle.schema_check.specs.Walk.{AreInOrder, IsWalk}
use Rattle.schema_check.specs.declared.checking.BadPair.{BadPair}
use Rattle.schema_check.proofs.BadKinds.{bad_by, by_kind, kind_by, some_kind}
use Rattle.schema_check.proofs.Walked.{LeadsInto, closed_among, got, grown, one_of, walked}

module _ (W R : List Node) where
  -- what was there before, and then these
  pub record ComesAfter (front : List Pair) (place : ℕ) (ps pairs : List Pair) : Type 0 where
    pub is : pairs ≡ front ++ ps
    pub count : place ≡ length front

  one_further : (front : List Pair) (place : ℕ) (p : Pair) (ps pairs : List Pair) → ComesAfter front place (p ∷ ps) pairs → ComesAfter (front ++ p ∷ []) (suc place) ps pairs
  one_further front place p ps pairs s = record { is = s.is ∙ sym (append_assoc front (p ∷ []) ps); count = omega (arith, s.count, length-append front (p ∷ [])) }

  seam : (front ps : List Pair) (p : Pair) → slice_get (front ++ p ∷ ps) (length front) ≡ Some p
  seam [] ps p = refl
  seam (x ∷ front) ps p = seam front ps p

  here : (front : List Pair) (place : ℕ) (p : Pair) (ps pairs : List Pair) → ComesAfter front place (p ∷ ps) pairs → slice_get pairs place ≡ Some p
  here front place p ps pairs s = rw (s.is, s.count) (seam front ps p)

  bad_only : (front : List Pair) (place : ℕ) (ps pairs : List Pair) → ComesAfter front place ps pairs → AllByRecursion (Reached W R) ps → AllByRecursion (IsBadThere W R pairs) (bad_among W R place ps)
  bad_only front place [] pairs s a = tt
  bad_only front place (p ∷ ps) pairs s a = by_case (kind_of W R p) refl (bad_only (front ++ p ∷ []) (suc place) ps pairs (one_further front place p ps pairs s) a.1) where
    by_case : (o : Option MismatchKind) → kind_of W R p ≡ o → AllByRecursion (IsBadThere W R pairs) (bad_among W R (suc place) ps) → AllByRecursion (IsBadThere W R pairs) (entry o place p ++ bad_among W R (suc place) ps)
    by_case None e rest = rest
    by_case (Some kind) e rest = (record { reached = a.0; bad = kind_by W R p kind e; there = here front place p ps pairs s }, rest)

  bad_all : (place : ℕ) (ps : List Pair) (kind : MismatchKind) (p : Pair) → Among p ps → kind_of W R p ≡ Some kind → IsListed W R (bad_among W R place ps) kind p
  bad_all place [] kind p a e = absurd a
  bad_all place (x ∷ ps) kind p (inl same) e =
      let is : kind_of W R x ≡ Some kind = ap (kind_of W R) (sym same) ∙ e in
      subst (λ (o : Option MismatchKind). IsListed W R (entry o place x ++ bad_among W R (suc place) ps) kind p) (sym is) (record { i = 0; b = bad_pair kind place x; at = refl; kind_is = refl; pair_is = sym same })
  bad_all place (x ∷ ps) kind p (inr a) e = past (kind_of W R x) (bad_all (suc place) ps kind p a e) where
    past : (o : Option MismatchKind) → IsListed W R (bad_among W R (suc place) ps) kind p → IsListed W R (entry o place x ++ bad_among W R (suc place) ps) kind p
    past None h = h
    past (Some k) h = record { i = suc h.i; b = h.b; at = h.at; kind_is = h.kind_is; pair_is = h.pair_is }

  in_bad : (q : Pair) (place : ℕ) (ps : List Pair) → Among q (pairs_of (bad_among W R place ps)) → Among q ps
  in_bad q place [] a = absurd a
  in_bad q place (p ∷ ps) a = by_case (kind_of W R p) a (λ b. in_bad q (suc place) ps b) where
    by_case : (o : Option MismatchKind) → Among q (pairs_of (entry o place p ++ bad_among W R (suc place) ps)) → (Among q (pairs_of (bad_among W R (suc place) ps)) → Among q ps) → Among q (p ∷ ps)
    by_case None a rest = inr (rest a)
    by_case (Some k) (inl e) rest = inl e
    by_case (Some k) (inr a) rest = inr (rest a)

  bad_once : (place : ℕ) (ps : List Pair) → AreOnce ps → AreOnce (pairs_of (bad_among W R place ps))
  bad_once place [] o = tt
  bad_once place (p ∷ ps) o = by_case (kind_of W R p) (bad_once (suc place) ps o.1) where
    by_case : (k : Option MismatchKind) → AreOnce (pairs_of (bad_among W R (suc place) ps)) → AreOnce (pairs_of (entry k place p ++ bad_among W R (suc place) ps))
    by_case None rest = rest
    by_case (Some k) rest = (λ a. o.0 (in_bad p (suc place) ps a), rest)

  bad_more : (place : ℕ) (ps : List Pair) (p : Pair) → bad_among W R place (ps ++ p ∷ []) ≡ bad_among W R place ps ++ entry (kind_of W R p) (place + length ps) p
  bad_more place [] p = one (kind_of W R p) where
    one : (o : Option MismatchKind) → entry o place p ++ [] ≡ entry o (place + 0) p
    one None = refl
    one (Some k) = ap (λ (n : ℕ). bad_pair k n p ∷ []) (let h : place ≡ place + 0 = omega arith in h)
  bad_more place (x ∷ ps) p =
      let count : suc place + length ps ≡ place + length (x ∷ ps) = omega arith in
      ap (λ (bs : List BadPair). entry (kind_of W R x) place x ++ bs) (bad_more (suc place) ps p ∙ ap (λ (n : ℕ). bad_among W R (suc place) ps ++ entry (kind_of W R p) n p) count) ∙ sym (append_assoc (entry (kind_of W R x) place x) (bad_among W R (suc place) ps) (entry (kind_of W R p) (place + length (x ∷ ps)) p))

  no_bad : (bad : List BadPair) → bad ≡ [] → (i : ℕ) (b : BadPair) → slice_get bad i ≡ Some b → ⊥
  no_bad [] e i b at = absurd cc
  no_bad (x ∷ bs) e i b at = absurd cc

  none_if_safe : (pairs : List Pair) (bad : List BadPair) → AllByRecursion (IsBadThere W R pairs) bad → IsSafe W R → bad ≡ []
  none_if_safe pairs [] a safe = refl
  none_if_safe pairs (b ∷ bs) a safe = absurd (safe (pair_of b) a.0.reached (bad_by W R (pair_of b) b.kind a.0.bad))

  pub are_bad_pairs : (ps : List Pair) (bad : List BadPair) → AreInOrder W R ps → bad ≡ bad_among W R 0 ps → AreBadPairs W R ps bad
  are_bad_pairs ps bad w is =
      let k = walked W R (length ps) ps w in
      let closed : AllByRecursion (LeadsInto W R ps) ps = subst (λ (x : List Pair). AllByRecursion (LeadsInto W R ps) x) (take-length ps) k.closed in
      let only : AllByRecursion (IsBadThere W R ps) bad = rw is (bad_only [] 0 ps ps (record { is = refl; count = refl }) k.reached) in
      let all : (kind : MismatchKind) (p : Pair) → Reached W R p → IsBadBy W R kind p → IsListed W R bad kind p = λ kind p r b. rw is (bad_all 0 ps kind p (closed_among W R ps k.top closed p r) (by_kind W R p kind b)) in
      record {
        safe = (λ none p r b. (let k = some_kind W R p b in let there = all k.0 p r k.1 in no_bad bad none there.i there.b there.at), none_if_safe ps bad only);
        only = only;
        all = all;
        once = rw is (bad_once 0 ps k.once);
        in_order = w;
        among = is;
      }

  -- ---- the loop

  pub bad_on : (i : ℕ) (p : Pair) (old new : List Pair) (bad : List BadPair) → bad ≡ bad_among W R 0 (take i old) → i < length old → p ≡ get_or old i p → new ≡ with_all old (next_pairs W R p) → bad ++ entry (kind_of W R p) i p ≡ bad_among W R 0 (take (i + 1) new)
  bad_on i p old new bad so_far lt at is =
      let g = grown old (next_pairs W R p) in
      let front : take (i + 1) new ≡ take i old ++ p ∷ [] = ap (take (i + 1)) (is ∙ g.is) ∙ take-append-le (i + 1) old g.extra (omega arith) ∙ take_more old i p lt ∙ ap (λ (x : Pair). take i old ++ x ∷ []) (sym at) in
      let count : i ≡ 0 + length (take i old) = omega (arith, length-take-le i old (omega arith)) in
      ap (λ (bs : List BadPair). bs ++ entry (kind_of W R p) i p) so_far ∙ ap (λ (n : ℕ). bad_among W R 0 (take i old) ++ entry (kind_of W R p) n p) count ∙ sym (bad_more 0 (take i old) p) ∙ ap (bad_among W R 0) (sym front)

  pub walk_end : (i : ℕ) (ps : List Pair) (bad : List BadPair) → IsWalk W R i ps → length ps ≤ i → bad ≡ bad_among W R 0 (take i ps) → AreBadPairs W R ps bad
  walk_end i ps bad w le is =
      let k = walked W R i ps w in
      let e : i ≡ length ps = omega (arith, k.bound) in
      are_bad_pairs ps bad (subst (λ (n : ℕ). IsWalk W R n ps) e w) (is ∙ ap (bad_among W R 0) (ap (λ (n : ℕ). take n ps) e ∙ take-length ps))

  pub bad_within : (writers readers : ℕ) (ps : List Pair) (bad : List BadPair) → of_nodes.AreWithin writers readers ps → AllByRecursion (IsBadThere W R ps) bad → AreWithin writers readers (length ps) bad
  bad_within writers readers ps [] a only = tt
  bad_within writers readers ps (b ∷ bs) a only =
      let here = got ps b.place (pair_of b) only.0.there in
      let nodes = one_of (λ p. (p.0 < writers) × (p.1 < readers)) ps a (pair_of b) here.2 in
      ((nodes.0, nodes.1, here.0), bad_within writers readers ps bs a only.1)
