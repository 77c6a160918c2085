-- A closed list of good pairs with the root shows safety.
use Rattle.std.proofs.Common.{◌≡◌, ℕ, zero, suc, ◌+◌, ◌<◌, ◌≤◌, Bool, true, false, Some, None, List, [], ◌∷◌, ◌++◌, length, take, get_or, refl, sym, ap, subst, ◌∙◌, inl, inr, arith, append_assoc}
use Rattle.std.proofs.lemmas.List.{take-append-le, take_more, length-append}
use Rattle.std.proofs.Math.Seq.{take-length}
use Rattle.resolver.specs.Pairs.{Listed, Adds, AddsAll}
use Rattle.std.specs.List.{AllByRecursion}
use Rattle.spec_avro.specs.Node.{Node}
use Rattle.resolver.proofs.Leading.{among_leads, bad_told, leads_among}
use Rattle.resolver.specs.NextPairs.{Among, next_pairs, is_bad, unless}
use Rattle.spec_avro.specs.Safety.{Pair, Reached, root, step, IsSafe}
use Rattle.resolver.specs.Laws.Plain.{among_one}

-- good, and all that comes next is there
abbrev pub IsFine : List Node → List Node → List Pair → Pair → Type 0
IsFine W R all p = (is_bad W R p ≡ false) × AllByRecursion (λ q. Among q all) (next_pairs W R p)

fine_one : (W R : List Node) (all ps : List Pair) → AllByRecursion (IsFine W R all) ps → (p : Pair) → Among p ps → IsFine W R all p
fine_one W R all [] f p a = absurd a
fine_one W R all (x ∷ ps) f p (inl e) = subst (IsFine W R all) (sym e) f.0
fine_one W R all (x ∷ ps) f p (inr a) = fine_one W R all ps f.1 p a

-- each reached pair is among them
closed_among : (W R : List Node) (all : List Pair) → Among (0, 0) all → AllByRecursion (IsFine W R all) all → (p : Pair) → Reached W R p → Among p all
closed_among W R all top fine p root = top
closed_among W R all top fine p (step o q r a) = among_one all (next_pairs W R o) (fine_one W R all all fine o (closed_among W R all top fine o r)).1 p (leads_among W R o p a)

pub safe_if_closed : (W R : List Node) (all : List Pair) → Among (0, 0) all → AllByRecursion (IsFine W R all) all → IsSafe W R
safe_if_closed W R all top fine p r bad = (let clash : true ≡ false = sym (bad_told W R p bad) ∙ (fine_one W R all all fine p (closed_among W R all top fine p r)).0 in cc)

pub among_more : (q : Pair) (ps more : List Pair) → Among q ps → Among q (ps ++ more)
among_more q [] more a = absurd a
among_more q (p ∷ ps) more (inl e) = inl e
among_more q (p ∷ ps) more (inr a) = inr (among_more q ps more a)

pub among_last : (q : Pair) (ps : List Pair) → Among q (ps ++ q ∷ [])
among_last q [] = inl refl
among_last q (p ∷ ps) = inr (among_last q ps)

pub all_among_more : (qs ps more : List Pair) → AllByRecursion (λ q. Among q ps) qs → AllByRecursion (λ q. Among q (ps ++ more)) qs
all_among_more [] ps more a = tt
all_among_more (q ∷ qs) ps more a = (among_more q ps more a.0, all_among_more qs ps more a.1)

pub fine_more : (W R : List Node) (qs ps more : List Pair) → AllByRecursion (IsFine W R ps) qs → AllByRecursion (IsFine W R (ps ++ more)) qs
fine_more W R [] ps more a = tt
fine_more W R (q ∷ qs) ps more a = ((a.0.0, all_among_more (next_pairs W R q) ps more a.0.1), fine_more W R qs ps more a.1)

pub all_after : (P : Pair → Type 0) (ps more : List Pair) → AllByRecursion P ps → AllByRecursion P more → AllByRecursion P (ps ++ more)
all_after P [] more a b = b
all_after P (p ∷ ps) more a b = (a.0, all_after P ps more a.1 b)

pub all_at : (P : Pair → Type 0) (ps : List Pair) (i : ℕ) (p : Pair) → AllByRecursion P ps → i < length ps → p ≡ get_or ps i p → P p
all_at P [] i p a lt e = absurd (omega arith)
all_at P (x ∷ ps) zero p a lt e = subst P (sym e) a.0
all_at P (x ∷ ps) (suc i) p a lt e = all_at P ps i p a.1 (omega arith) e

pub adds_more : (qs : List Pair) (q : Pair) (old mid new : Listed) → AddsAll qs old mid → Adds q mid new → AddsAll (qs ++ q ∷ []) old new
adds_more qs q old mid new a b = elim b.added as (λ _. AddsAll (qs ++ q ∷ []) old new) [
  | inl s ↦ record {
    writers = b.writers ∙ a.writers;
    readers = b.readers ∙ a.readers;
    extra = a.extra;
    pairs = s.0 ∙ a.pairs;
    all = rw s.0 (all_after (λ q. Among q mid.pairs) qs (q ∷ []) a.all (s.1, tt));
    only = all_among_more a.extra qs (q ∷ []) a.only;
  }
  | inr s ↦ record {
    writers = b.writers ∙ a.writers;
    readers = b.readers ∙ a.readers;
    extra = a.extra ++ q ∷ [];
    pairs = s ∙ ap (λ (x : List Pair). x ++ q ∷ []) a.pairs ∙ append_assoc old.pairs a.extra (q ∷ []);
    all = rw s (all_after (λ y. Among y (mid.pairs ++ q ∷ [])) qs (q ∷ []) (all_among_more qs mid.pairs (q ∷ []) a.all) (among_last q mid.pairs, tt));
    only = all_after (λ y. Among y (qs ++ q ∷ [])) a.extra (q ∷ []) (all_among_more a.extra qs (q ∷ []) a.only) (among_last q qs, tt);
  }
]

-- what is returned for a pair that is good, and for one that is bad
pub told_good : (b : Bool) (ps qs : List Pair) → Some qs ≡ unless b ps → (b ≡ false) × (qs ≡ ps)
told_good true ps qs e = absurd (let no : ⊥ = cc in no)
told_good false ps qs e = (refl, (let same : qs ≡ ps = cc in same))

pub told_none : (b : Bool) (ps : List Pair) → None ≡ unless b ps → b ≡ true
told_none true ps e = refl
told_none false ps e = absurd (let no : ⊥ = cc in no)

-- what the loop keeps
pub record Kept (W R : List Node) (i : ℕ) (ps : List Pair) : Type 0 where
  pub bound : i ≤ length ps
  pub top : Among (0, 0) ps
  pub reached : AllByRecursion (Reached W R) ps
  pub fine : AllByRecursion (IsFine W R ps) (take i ps)

only_next : (W R : List Node) (p : Pair) (extra : List Pair) → Reached W R p → AllByRecursion (λ q. Among q (next_pairs W R p)) extra → AllByRecursion (Reached W R) extra
only_next W R p [] r a = tt
only_next W R p (q ∷ qs) r a = (step p q r (among_leads W R p q a.0), only_next W R p qs r a.1)

take_front : (ps more : List Pair) (i : ℕ) → i ≤ length ps → take i (ps ++ more) ≡ take i ps
take_front ps more i le = take-append-le i ps more le

pub kept_on : (W R : List Node) (i : ℕ) (p : Pair) (old new : Listed) → Kept W R i old.pairs → i < length old.pairs → p ≡ get_or old.pairs i p → is_bad W R p ≡ false → AddsAll (next_pairs W R p) old new → Kept W R (i + 1) new.pairs
kept_on W R i p old new k lt is good a =
    let here = all_at (Reached W R) old.pairs i p k.reached lt is in
    let long : length old.pairs ≤ length new.pairs = omega (arith, ap length a.pairs, length-append old.pairs a.extra) in
    let front : take (i + 1) new.pairs ≡ take i old.pairs ++ p ∷ [] = ap (take (i + 1)) a.pairs ∙ take_front old.pairs a.extra (i + 1) (omega arith) ∙ take_more old.pairs i p lt ∙ ap (λ (x : Pair). take i old.pairs ++ x ∷ []) (sym is) in
    record {
      bound = omega arith;
      top = rw a.pairs (among_more (0, 0) old.pairs a.extra k.top);
      reached = rw a.pairs (all_after (Reached W R) old.pairs a.extra k.reached (only_next W R p a.extra here a.only));
      fine = rw front (all_after (IsFine W R new.pairs) (take i old.pairs) (p ∷ []) (rw a.pairs (fine_more W R (take i old.pairs) old.pairs a.extra k.fine)) ((good, a.all), tt));
    }

pub kept_end : (W R : List Node) (i : ℕ) (ps : List Pair) → Kept W R i ps → length ps ≤ i → IsSafe W R
kept_end W R i ps k le =
    let e : i ≡ length ps = omega (arith, k.bound) in
    safe_if_closed W R ps k.top (subst (λ (x : List Pair). AllByRecursion (IsFine W R ps) x) (take-length ps) (subst (λ (n : ℕ). AllByRecursion (IsFine W R ps) (take n ps)) e k.fine))

pub all_added : (ps : List Pair) (i : ℕ) (old mid new : Listed) → i < length ps → AddsAll (take i ps) old mid → Adds (get_or ps i (0, 0)) mid new → AddsAll (take (i + 1) ps) old new
all_added ps i old mid new lt a b = rw (take_more ps i (0, 0) lt) (adds_more (take i ps) (get_or ps i (0, 0)) old mid new a b)

pub kept_first : (W R : List Node) (old new : Listed) → old.pairs ≡ [] → Adds (0, 0) old new → Kept W R 0 new.pairs
kept_first W R old new e b = elim b.added as (λ _. Kept W R 0 new.pairs) [
  | inl s ↦ absurd (subst (Among (0, 0)) e s.1)
  | inr s ↦ (let one : new.pairs ≡ (0, 0) ∷ [] = s ∙ ap (λ (x : List Pair). x ++ (0, 0) ∷ []) e in record { bound = omega arith; top = rw one (inl refl); reached = rw one (root, tt); fine = tt })
]
