-- What the rounds reach.
use Rattle.std.proofs.Common.{◌≡◌, ℕ, zero, suc, ◌+◌, ◌<◌, ◌≤◌, List, ◌++◌, length, Option, Some, None, refl, sym, ap, ◌∙◌, arith, length-append}
use Rattle.std.specs.Prelude.{slice_get}
use Rattle.std.proofs.lemmas.Option.{slice_get_within}
use Rattle.spec_avro.specs.Options.{given}
use Rattle.spec_machine.specs.Code.{reached}
use Rattle.spec_machine.specs.Statements.{Section, Statement}
use Rattle.spec_machine.specs.Numbering.{adding, calls_of, named_in, same_section}
use Rattle.program_definition.proofs.Numbers.{added, section_refl}

module _ (section : Section → List Statement) where
  abbrev next : List Section → Section → List Section
  next ss s = adding same_section ss (named_in calls_of (section s))

  longer : (ss : List Section) (s : Section) → length ss ≤ length (next ss s)
  longer ss s = let x = (added same_section section_refl (named_in calls_of (section s)) ss).0 in let e : length (next ss s) ≡ length (ss ++ x.0) = ap length x.1 in omega (arith, e, length-append ss x.0)

  abbrev Step : ℕ → ℕ → List Section → Option Section → Option (List Section)
  Step n i ss o = elim o [ None ↦ Some ss | Some s ↦ reached section n (i + 1) (next ss s) ]

  not_shorter : (n i : ℕ) (ss qs : List Section) → reached section n i ss ≡ Some qs → length ss ≤ length qs
  not_shorter zero i ss qs h = go (slice_get ss i) h
    where
      go : (o : Option Section) → given o (Some ss) (λ s. None) ≡ Some qs → length ss ≤ length qs
      go None h = let same : ss ≡ qs = cc in let e = ap length same in omega (arith, e)
      go (Some s) h = absurd (let no : ⊥ = cc in no)
  not_shorter (suc n) i ss qs h = go (slice_get ss i) (λ s h. not_shorter n (i + 1) (next ss s) qs h) h
    where
      go : (o : Option Section) → ((s : Section) → reached section n (i + 1) (next ss s) ≡ Some qs → length (next ss s) ≤ length qs) → Step n i ss o ≡ Some qs → length ss ≤ length qs
      go None rest h = let same : ss ≡ qs = cc in let e = ap length same in omega (arith, e)
      go (Some s) rest h = let l = longer ss s in let k = rest s h in omega arith

  -- where n rounds are not enough, there are more sections than n
  pub too_many : (n m i : ℕ) (ss qs : List Section) → reached section n i ss ≡ None → reached section m i ss ≡ Some qs → i + n < length qs
  too_many zero m i ss qs none some = go (slice_get ss i) refl none
    where
      go : (o : Option Section) → slice_get ss i ≡ o → ◌≡◌ {A = Option (List Section)} (given o (Some ss) (λ s. None)) None → i + 0 < length qs
      go None e none = absurd (let no : ⊥ = cc in no)
      go (Some s) e none = let a = slice_get_within ss i s e in let b = not_shorter m i ss qs some in omega arith
  too_many (suc n) zero i ss qs none some = go (slice_get ss i) none some
    where
      go : (o : Option Section) → Step n i ss o ≡ None → given o (Some ss) (λ s. None) ≡ Some qs → i + suc n < length qs
      go None none some = absurd (let no : ⊥ = cc in no)
      go (Some s) none some = absurd (let no : ⊥ = cc in no)
  too_many (suc n) (suc m) i ss qs none some = go (slice_get ss i) (λ s a b. too_many n m (i + 1) (next ss s) qs a b) none some
    where
      go : (o : Option Section) → ((s : Section) → reached section n (i + 1) (next ss s) ≡ None → reached section m (i + 1) (next ss s) ≡ Some qs → i + 1 + n < length qs) → Step n i ss o ≡ None → Step m i ss o ≡ Some qs → i + suc n < length qs
      go None rest none some = absurd (let no : ⊥ = cc in no)
      go (Some s) rest none some = let k = rest s none some in omega arith

  -- what is reached does not depend on the rounds
  pub same_reached : (n m i : ℕ) (ss ps qs : List Section) → reached section n i ss ≡ Some ps → reached section m i ss ≡ Some qs → ps ≡ qs
  same_reached zero zero i ss ps qs a b = let e : Some ps ≡ Some qs = sym a ∙ b in cc
  same_reached zero (suc m) i ss ps qs a b = go (slice_get ss i) a b
    where
      go : (o : Option Section) → given o (Some ss) (λ s. None) ≡ Some ps → Step m i ss o ≡ Some qs → ps ≡ qs
      go None a b = cc
      go (Some s) a b = absurd (let no : ⊥ = cc in no)
  same_reached (suc n) zero i ss ps qs a b = go (slice_get ss i) a b
    where
      go : (o : Option Section) → Step n i ss o ≡ Some ps → given o (Some ss) (λ s. None) ≡ Some qs → ps ≡ qs
      go None a b = cc
      go (Some s) a b = absurd (let no : ⊥ = cc in no)
  same_reached (suc n) (suc m) i ss ps qs a b = go (slice_get ss i) (λ s a b. same_reached n m (i + 1) (next ss s) ps qs a b) a b
    where
      go : (o : Option Section) → ((s : Section) → reached section n (i + 1) (next ss s) ≡ Some ps → reached section m (i + 1) (next ss s) ≡ Some qs → ps ≡ qs) → Step n i ss o ≡ Some ps → Step m i ss o ≡ Some qs → ps ≡ qs
      go None rest a b = cc
      go (Some s) rest a b = rest s a b
