-- Each section that is reached is what its callers say.
use Rattle.std.proofs.Common.{◌≡◌, ℕ, zero, suc, ◌+◌, Bool, true, false, List, [], ◌∷◌, ◌++◌, Option, Some, None, refl, subst}
use Rattle.std.specs.Prelude.{slice_get, if◌then◌else◌}
use Rattle.std.specs.List.{AllByRecursion}
use Rattle.spec_avro.specs.Options.{given}
use Rattle.spec_machine.specs.Code.{reached}
use Rattle.spec_machine.specs.Statements.{Section, Statement}
use Rattle.spec_machine.specs.Numbering.{adding, calls_of, has, named_in, same_section}

module _ {A : Type 0} (same : A → A → Bool) (Q : A → Type 0) where
  all_last : (xs : List A) (a : A) → AllByRecursion Q xs → Q a → AllByRecursion Q (xs ++ a ∷ [])
  all_last [] a h k = (k, tt)
  all_last (x ∷ xs) a h k = (h.0, all_last xs a h.1 k)

  pub all_added : (cs xs : List A) → AllByRecursion Q cs → AllByRecursion Q xs → AllByRecursion Q (adding same xs cs)
  all_added [] xs h k = k
  all_added (c ∷ cs) xs h k = go (has same c xs) (all_added cs xs h.1 k) (all_added cs (xs ++ c ∷ []) h.1 (all_last xs c k h.0))
    where
      go : (b : Bool) → AllByRecursion Q (adding same xs cs) → AllByRecursion Q (adding same (xs ++ c ∷ []) cs) → AllByRecursion Q (if b then adding same xs cs else adding same (xs ++ c ∷ []) cs)
      go true x y = x
      go false x y = y

pub got : (Q : Section → Type 0) (ss : List Section) (i : ℕ) (s : Section) → AllByRecursion Q ss → slice_get ss i ≡ Some s → Q s
got Q [] i s all e = absurd cc
got Q (x ∷ ss) zero s all e = let same : x ≡ s = cc in subst Q same all.0
got Q (x ∷ ss) (suc i) s all e = got Q ss i s all.1 e

module _ (section : Section → List Statement) (Q : Section → Type 0) (calls_are : (s : Section) → Q s → AllByRecursion Q (named_in calls_of (section s))) where
  abbrev next : List Section → Section → List Section
  next ss s = adding same_section ss (named_in calls_of (section s))

  abbrev Step : ℕ → ℕ → List Section → Option Section → Option (List Section)
  Step n i ss o = elim o [ None ↦ Some ss | Some s ↦ reached section n (i + 1) (next ss s) ]

  pub all_reached : (n i : ℕ) (ss qs : List Section) → AllByRecursion Q ss → reached section n i ss ≡ Some qs → AllByRecursion Q qs
  all_reached zero i ss qs all h = go (slice_get ss i) h
    where
      go : (o : Option Section) → given o (Some ss) (λ s. None) ≡ Some qs → AllByRecursion Q qs
      go None h = let same : ss ≡ qs = cc in subst (λ (l : List Section). AllByRecursion Q l) same all
      go (Some s) h = absurd cc
  all_reached (suc n) i ss qs all h = go (slice_get ss i) refl (λ s e h. all_reached n (i + 1) (next ss s) qs (all_added same_section Q (named_in calls_of (section s)) ss (calls_are s (got Q ss i s all e)) all) h) h
    where
      go : (o : Option Section) → slice_get ss i ≡ o → ((s : Section) → slice_get ss i ≡ Some s → reached section n (i + 1) (next ss s) ≡ Some qs → AllByRecursion Q qs) → Step n i ss o ≡ Some qs → AllByRecursion Q qs
      go None e rest h = let same : ss ≡ qs = cc in subst (λ (l : List Section). AllByRecursion Q l) same all
      go (Some s) e rest h = rest s e h
