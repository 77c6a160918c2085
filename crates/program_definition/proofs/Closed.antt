-- Every section that is called is listed.
use Rattle.std.proofs.Common.{◌≡◌, ℕ, zero, suc, ◌+◌, ◌<◌, ◌≤◌, ⊎_elim, true, List, [], ◌∷◌, ◌++◌, length, Option, Some, None, refl, sym, ap, ◌∙◌, subst, arith, append_assoc}
use Rattle.std.specs.Prelude.{slice_get}
use Rattle.std.specs.List.{AllByRecursion}
use Rattle.std.proofs.lemmas.Option.{slice_get_within}
use Rattle.std.proofs.lemmas.Bool.{cases_lt}
use Rattle.spec_avro.specs.Options.{given}
use Rattle.spec_machine.specs.Code.{statements_of, reached}
use Rattle.spec_machine.specs.Statements.{Section, Main, Statement}
use Rattle.spec_machine.specs.Numbering.{adding, calls_of, has, named_in, same_section}
use Rattle.program_definition.proofs.Numbers.{AllIn, Extends, added, all_more, section_refl}

module _ (section : Section → List Statement) where
  abbrev calls : Section → List Section
  calls s = named_in calls_of (section s)

  abbrev Called : List Section → List Section → Type 0
  Called cs ss = AllIn same_section section_refl cs ss

  -- the calls of the first sections are there
  abbrev Below : ℕ → List Section → Type 0
  Below i ss = (m : ℕ) (s : Section) → m < i → slice_get ss m ≡ Some s → Called (calls s) ss

  abbrev pub Closed : List Section → Type 0
  Closed ss = (m : ℕ) (s : Section) → slice_get ss m ≡ Some s → Called (calls s) ss

  get_front : (ss more : List Section) (m : ℕ) → m < length ss → slice_get (ss ++ more) m ≡ slice_get ss m
  get_front [] more m h = absurd (omega arith)
  get_front (s ∷ ss) more zero h = refl
  get_front (s ∷ ss) more (suc m) h = get_front ss more m (omega arith)

  abbrev next : ℕ → List Section → Section → List Section
  next i ss s = adding same_section ss (calls s)

  one_on : (i : ℕ) (ss : List Section) (s : Section) → slice_get ss i ≡ Some s → Below i ss → Below (i + 1) (next i ss s)
  one_on i ss s at below m k lt there =
      let x = added same_section section_refl (calls s) ss in
      let lenlt = slice_get_within ss i s at in
      let front : slice_get ss m ≡ Some k = sym (get_front ss x.0.0 m (omega arith)) ∙ ap (λ l. slice_get l m) (sym x.0.1) ∙ there in
      ⊎_elim
      (λ l. subst (Called (calls k)) (sym x.0.1) (all_more same_section section_refl (calls k) ss x.0.0 (below m k l front)))
      (λ l. let e : m ≡ i = omega arith in let same : k ≡ s = some_same k s (sym front ∙ ap (slice_get ss) e ∙ at) in subst (λ z. Called (calls z) (next i ss s)) (sym same) x.1)
      (cases_lt m i)
    where
      some_same : (a b : Section) → Some a ≡ Some b → a ≡ b
      some_same a b h = cc

  none_past : (ss : List Section) (i : ℕ) → slice_get ss i ≡ None → length ss ≤ i
  none_past [] i h = omega arith
  none_past (s ∷ ss) zero h = absurd (let no : ⊥ = cc in no)
  none_past (s ∷ ss) (suc i) h = omega (arith, none_past ss i h)

  -- what is reached stays closed, after what was there
  abbrev Good : List Section → List Section → Type 0
  Good ss qs = Closed qs × Extends same_section section_refl ss qs

  all_below : (i : ℕ) (ss qs : List Section) → Below i ss → slice_get ss i ≡ None → ss ≡ qs → Good ss qs
  all_below i ss qs below e same = (
    subst (λ l. (m : ℕ) (s : Section) → slice_get l m ≡ Some s → Called (calls s) l) same (λ m k at. let lt = slice_get_within ss m k at in let past = none_past ss i e in below m k (omega arith) at),
    ([], sym same ∙ sym (nil_after ss)),
  )
    where
      nil_after : (xs : List Section) → xs ++ [] ≡ xs
      nil_after [] = refl
      nil_after (x ∷ xs) = ap (λ ys. x ∷ ys) (nil_after xs)

  some_is : (a b : List Section) → Some a ≡ Some b → a ≡ b
  some_is a b h = cc

  extends_on : (xs ys zs : List Section) → Extends same_section section_refl xs ys → Extends same_section section_refl ys zs → Extends same_section section_refl xs zs
  extends_on xs ys zs a b = (a.0 ++ b.0, b.1 ∙ ap (λ l. l ++ b.0) a.1 ∙ append_assoc xs a.0 b.0)

  grown : (n i : ℕ) (ss qs : List Section) → Below i ss → reached section n i ss ≡ Some qs → Good ss qs
  grown zero i ss qs below h = go (slice_get ss i) refl h
    where
      go : (o : Option Section) → slice_get ss i ≡ o → given o (Some ss) (λ s. None) ≡ Some qs → Good ss qs
      go None e h = all_below i ss qs below e (some_is ss qs h)
      go (Some s) e h = absurd (let no : ⊥ = cc in no)
  grown (suc n) i ss qs below h = go (slice_get ss i) refl (λ s e h. grown n (i + 1) (next i ss s) qs (one_on i ss s e below) h) h
    where
      go : (o : Option Section) → slice_get ss i ≡ o → ((s : Section) → slice_get ss i ≡ Some s → reached section n (i + 1) (next i ss s) ≡ Some qs → Good (next i ss s) qs) → ◌≡◌ {A = Option (List Section)} (elim o [ None ↦ Some ss | Some s ↦ reached section n (i + 1) (next i ss s) ]) (Some qs) → Good ss qs
      go None e f h = all_below i ss qs below e (some_is ss qs h)
      go (Some s) e f h = let g = f s e h in (g.0, extends_on ss (next i ss s) qs (added same_section section_refl (calls s) ss).0 g.1)

  pub reached_closed : (n : ℕ) (qs : List Section) → reached section n 0 (Main ∷ []) ≡ Some qs → Closed qs × Extends same_section section_refl (Main ∷ []) qs
  reached_closed n qs h = grown n 0 (Main ∷ []) qs none_below h
    where
      none_below : (m : ℕ) (s : Section) → m < 0 → slice_get (Main ∷ []) m ≡ Some s → Called (calls s) (Main ∷ [])
      none_below m s lt at = absurd (omega arith)

  all_appended : (Q : Section → Type 0) (a b : List Statement) → AllByRecursion Q (named_in calls_of a) → AllByRecursion Q (named_in calls_of b) → AllByRecursion Q (named_in calls_of (a ++ b))
  all_appended Q [] b h k = k
  all_appended Q (l ∷ a) b h k = both (calls_of l) (named_in calls_of a) (named_in calls_of (a ++ b)) h (λ h. all_appended Q a b h k)
    where
      both : (xs ys zs : List Section) → AllByRecursion Q (xs ++ ys) → (AllByRecursion Q ys → AllByRecursion Q zs) → AllByRecursion Q (xs ++ zs)
      both [] ys zs h f = f h
      both (x ∷ xs) ys zs h f = (h.0, both xs ys zs h.1 f)

  pub all_called : (qs ss : List Section) → ((m : ℕ) (s : Section) → slice_get ss m ≡ Some s → Called (calls s) qs) → Called (named_in calls_of (statements_of section ss)) qs
  all_called qs [] each = tt
  all_called qs (s ∷ ss) each = all_appended (λ c. has same_section c qs ≡ true) (section s) (statements_of section ss) (each 0 s refl) (all_called qs ss (λ m k at. each (suc m) k at))
