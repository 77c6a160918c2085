-- A walk from the roots lists what is reached, each pair once.
use Rattle.std.proofs.Common.{◌≡◌, ℕ, zero, suc, ◌+◌, ◌<◌, ◌≤◌, List, [], ◌∷◌, ◌++◌, length, take, get_or, slice_get, Some, refl, sym, ap, subst, ◌∙◌, inl, inr, ◌⊎◌, arith, append_assoc}
use Rattle.std.proofs.lemmas.List.{take-append-le, take_more, length-append}
use Rattle.std.specs.List.{AllByRecursion}
use Rattle.spec_avro.specs.Node.{Node}
use Rattle.resolver.specs.NextPairs.{Among, next_pairs}
use Rattle.spec_avro.specs.Safety.{Pair, Reached, root, step}
use Rattle.resolver.proofs.Closed.{all_after, among_last, among_more}
use Rattle.resolver.proofs.Leading.{among_leads, leads_among}
use Rattle.schema_check.specs.Pairs.{AreOnce, with_all, with_one}
use Rattle.schema_check.specs.Walk.{IsWalk, begun, turn}
use Rattle.schema_check.proofs.Amid.{by_among, one_new, one_there}
use Rattle.resolver.specs.Laws.Plain.{among_one}

-- ---- pairs with more of them

-- the pairs, and then others, which are among those that came
pub record Grown (ps qs new : List Pair) : Type 0 where
  pub extra : List Pair
  pub is : new ≡ ps ++ extra
  pub only : AllByRecursion (λ q. Among q qs) extra
  pub all : AllByRecursion (λ q. Among q new) qs
  pub once : AreOnce ps → AreOnce new

pub append_nil : (ps : List Pair) → ps ≡ ps ++ []
append_nil [] = refl
append_nil (p ∷ ps) = ap (λ (x : List Pair). p ∷ x) (append_nil ps)

in_one : (x q : Pair) (ps : List Pair) → Among x (ps ++ q ∷ []) → Among x ps ⊎ (x ≡ q)
in_one x q [] (inl e) = inr e
in_one x q [] (inr a) = absurd a
in_one x q (p ∷ ps) (inl e) = inl (inl e)
in_one x q (p ∷ ps) (inr a) = elim (in_one x q ps a) [ inl b ↦ inl (inr b) | inr e ↦ inr e ]

once_more : (q : Pair) (ps : List Pair) → (Among q ps → ⊥) → AreOnce ps → AreOnce (ps ++ q ∷ [])
once_more q [] none o = (λ a. a, tt)
once_more q (p ∷ ps) none o =
    (λ a. elim (in_one p q ps a) [ inl b ↦ o.0 b | inr e ↦ none (inl (sym e)) ], once_more q ps (λ a. none (inr a)) o.1)

later_only : (q : Pair) (qs extra : List Pair) → AllByRecursion (λ x. Among x qs) extra → AllByRecursion (λ x. Among x (q ∷ qs)) extra
later_only q qs [] a = tt
later_only q qs (x ∷ xs) a = (inr a.0, later_only q qs xs a.1)

pub grown : (ps qs : List Pair) → Grown ps qs (with_all ps qs)
grown ps [] = record { extra = []; is = append_nil ps; only = tt; all = tt; once = λ o. o }
grown ps (q ∷ qs) = elim (by_among q ps) as (λ _. Grown ps (q ∷ qs) (with_all (with_one ps q) qs)) [
  | inl a ↦ subst (λ (x : List Pair). Grown ps (q ∷ qs) (with_all x qs)) (sym (one_there q ps a)) (let g = grown ps qs in
      record { extra = g.extra; is = g.is; only = later_only q qs g.extra g.only; all = (subst (Among q) (sym g.is) (among_more q ps g.extra a), g.all); once = g.once })
  | inr none ↦ subst (λ (x : List Pair). Grown ps (q ∷ qs) (with_all x qs)) (sym (one_new q ps none)) (let g = grown (ps ++ q ∷ []) qs in
      record {
        extra = q ∷ g.extra;
        is = g.is ∙ append_assoc ps (q ∷ []) g.extra;
        only = (inl refl, later_only q qs g.extra g.only);
        all = (subst (Among q) (sym g.is) (among_more q (ps ++ q ∷ []) g.extra (among_last q ps)), g.all);
        once = λ o. g.once (once_more q ps none o);
      })
]

-- ---- the walk

all_next : (ps more : List Pair) (qs : List Pair) → AllByRecursion (λ q. Among q ps) qs → AllByRecursion (λ q. Among q (ps ++ more)) qs
all_next ps more [] a = tt
all_next ps more (q ∷ qs) a = (among_more q ps more a.0, all_next ps more qs a.1)

pub one_of : (P : Pair → Type 0) (ps : List Pair) → AllByRecursion P ps → (q : Pair) → Among q ps → P q
one_of P [] f q a = absurd a
one_of P (x ∷ ps) f q (inl e) = subst P (sym e) f.0
one_of P (x ∷ ps) f q (inr a) = one_of P ps f.1 q a

pub got : (ps : List Pair) (i : ℕ) (p : Pair) → slice_get ps i ≡ Some p → (i < length ps) × (p ≡ get_or ps i p) × Among p ps
got [] i p e = absurd cc
got (x ∷ ps) zero p e = let same : p ≡ x = cc in (omega arith, same, inl same)
got (x ∷ ps) (suc i) p e = let g = got ps i p e in (omega (arith, g.0), g.1, inr g.2)

pub at_place : (ps : List Pair) (i : ℕ) (p : Pair) → i < length ps → p ≡ get_or ps i p → slice_get ps i ≡ Some p
at_place [] i p lt e = absurd (omega arith)
at_place (x ∷ ps) zero p lt e = ap Some (sym e)
at_place (x ∷ ps) (suc i) p lt e = at_place ps i p (omega arith) e

module _ (W R : List Node) where
  -- all that it leads to is there
  abbrev pub LeadsInto : List Pair → Pair → Type 0
  LeadsInto all p = AllByRecursion (λ q. Among q all) (next_pairs W R p)

  pub record Walked (i : ℕ) (ps : List Pair) : Type 0 where
    pub bound : i ≤ length ps
    pub top : Among (0, 0) ps
    pub reached : AllByRecursion (Reached W R) ps
    pub closed : AllByRecursion (LeadsInto ps) (take i ps)
    pub once : AreOnce ps

  more_closed : (qs ps more : List Pair) → AllByRecursion (LeadsInto ps) qs → AllByRecursion (LeadsInto (ps ++ more)) qs
  more_closed [] ps more a = tt
  more_closed (q ∷ qs) ps more a = (all_next ps more (next_pairs W R q) a.0, more_closed qs ps more a.1)

  next_reached : (p : Pair) (extra : List Pair) → Reached W R p → AllByRecursion (λ q. Among q (next_pairs W R p)) extra → AllByRecursion (Reached W R) extra
  next_reached p [] r a = tt
  next_reached p (q ∷ qs) r a = (step p q r (among_leads W R p q a.0), next_reached p qs r a.1)

  after_turn : (i : ℕ) (ps new : List Pair) (p : Pair) → Walked i ps → slice_get ps i ≡ Some p → Grown ps (next_pairs W R p) new → Walked (suc i) new
  after_turn i ps new p k at g =
      let here = got ps i p at in
      let lt : i < length ps = here.0 in
      let reach : Reached W R p = one_of (Reached W R) ps k.reached p here.2 in
      let long : length ps ≤ length new = omega (arith, ap length g.is, length-append ps g.extra) in
      let more : suc i ≡ i + 1 = omega arith in
      let front : take (suc i) new ≡ take i ps ++ p ∷ [] = ap (take (suc i)) g.is ∙ take-append-le (suc i) ps g.extra (omega arith) ∙ ap (λ (n : ℕ). take n ps) more ∙ take_more ps i p lt ∙ ap (λ (x : Pair). take i ps ++ x ∷ []) (sym here.1) in
      record {
        bound = omega arith;
        top = rw g.is (among_more (0, 0) ps g.extra k.top);
        reached = rw g.is (all_after (Reached W R) ps g.extra k.reached (next_reached p g.extra reach g.only));
        closed = rw front (all_after (LeadsInto new) (take i ps) (p ∷ []) (rw g.is (more_closed (take i ps) ps g.extra k.closed)) (g.all, tt));
        once = g.once k.once;
      }

  pub walked : (i : ℕ) (ps : List Pair) → IsWalk W R i ps → Walked i ps
  walked i ps begun = record { bound = omega arith; top = inl refl; reached = (root, tt); closed = tt; once = (λ a. a, tt) }
  walked i ps (turn {i = j} {ps = qs} {p = p} w at) = after_turn j qs (with_all qs (next_pairs W R p)) p (walked j qs w) at (grown qs (next_pairs W R p))

  pub closed_among : (all : List Pair) → Among (0, 0) all → AllByRecursion (LeadsInto all) all → (p : Pair) → Reached W R p → Among p all
  closed_among all top closed p root = top
  closed_among all top closed p (step o q r a) = among_one all (next_pairs W R o) (one_of (LeadsInto all) all closed o (closed_among all top closed o r)) p (leads_among W R o p a)

  -- ---- the loop

  pub walk_first : (old new : List Pair) → old ≡ [] → new ≡ with_one old (0, 0) → IsWalk W R 0 new
  walk_first old new e is = subst (IsWalk W R 0) (sym (is ∙ ap (λ (x : List Pair). with_one x (0, 0)) e)) begun

  pub walk_on : (i : ℕ) (p : Pair) (old new : List Pair) → IsWalk W R i old → i < length old → p ≡ get_or old i p → new ≡ with_all old (next_pairs W R p) → IsWalk W R (i + 1) new
  walk_on i p old new w lt at is = rw is (let more : suc i ≡ i + 1 = omega arith in subst (λ (n : ℕ). IsWalk W R n (with_all old (next_pairs W R p))) more (turn w (at_place old i p lt at)))

  pub grown_longer : (p : Pair) (old new : List Pair) → new ≡ with_all old (next_pairs W R p) → length old ≤ length new
  grown_longer p old new is = let g = grown old (next_pairs W R p) in omega (arith, ap length (is ∙ g.is), length-append old g.extra)
