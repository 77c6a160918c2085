-- There are finitely many sections, and as many rounds find all.
use Rattle.std.proofs.Common.{◌≡◌, ℕ, zero, suc, ◌+◌, ◌<◌, ◌⊎◌, inl, inr, Bool, true, false, List, [], ◌∷◌, ◌++◌, length, Option, Some, None, refl, sym, ap, ◌∙◌, subst, arith}
use Rattle.std.specs.Prelude.{slice_get, if◌then◌else◌}
use Rattle.std.specs.List.{AllByRecursion}
use Rattle.std.proofs.lemmas.Bool.{cases_lt}
use Rattle.std.proofs.lemmas.Option.{slice_get_within}
use Rattle.spec_avro.specs.Node.{Node, FieldNode, RecordNode}
use Rattle.spec_avro.specs.WellFormed.{IsWellFormed}
use Rattle.spec_avro.specs.Options.{given}
use Rattle.spec_avro.specs.Resolution.{field_lists}
use Rattle.spec_machine.specs.Code.{reached}
use Rattle.program_definition.specs.Limits.{AreAll, SectionsAreFound}
use Rattle.spec_machine.specs.Statements.{Section, Main, Write, Skip}
use Rattle.spec_machine.specs.Numbering.{adding, calls_of, has, named_in, same_section}
use Rattle.spec_machine.specs.Writing.{section}
use Rattle.program_definition.proofs.Apart.{AreApart, IsIn, apart_added, no_more}
use Rattle.program_definition.proofs.Callers.{all_added, got}
use Rattle.program_definition.proofs.Good.{IsRoutine}
use Rattle.program_definition.proofs.Numbers.{has_more, section_refl}
use Rattle.program_definition.proofs.Whole.{routines_called}

-- ---- the sections that there are

skips_of : ℕ → List Section
skips_of zero = []
skips_of (suc w) = Skip w ∷ skips_of w

writes_of : ℕ → ℕ → List Section
writes_of w zero = []
writes_of w (suc r) = Write w r ∷ writes_of w r

all_writes : ℕ → ℕ → List Section
all_writes zero readers = []
all_writes (suc w) readers = writes_of w readers ++ all_writes w readers

has_later : (s : Section) (xs ys : List Section) → IsIn ys s → IsIn (xs ++ ys) s
has_later s [] ys h = h
has_later s (x ∷ xs) ys h = go (same_section s x) (has_later s xs ys h)
  where
    go : (t : Bool) → IsIn (xs ++ ys) s → (if t then true else has same_section s (xs ++ ys)) ≡ true
    go true rest = refl
    go false rest = rest

here_or : (s x : Section) (xs : List Section) → (s ≡ x) ⊎ IsIn xs s → IsIn (x ∷ xs) s
here_or s x xs (inl same) = ap (λ b. if b then true else has same_section s xs) (ap (same_section s) (sym same) ∙ section_refl s)
here_or s x xs (inr rest) = go (same_section s x)
  where
    go : (t : Bool) → (if t then true else has same_section s xs) ≡ true
    go true = refl
    go false = rest

skip_in : (n w : ℕ) → w < n → IsIn (skips_of n) (Skip w)
unfolding skips_of
skip_in zero w lt = absurd (omega (arith, lt))
skip_in (suc n) w lt = here_or (Skip w) (Skip n) (skips_of n) (elim (cases_lt w n) [ inl lower ↦ inr (skip_in n w lower) | inr more ↦ inl (ap Skip (let same : w ≡ n = omega (arith, lt, more) in same)) ])

write_in : (w n r : ℕ) → r < n → IsIn (writes_of w n) (Write w r)
unfolding writes_of
write_in w zero r lt = absurd (omega (arith, lt))
write_in w (suc n) r lt = here_or (Write w r) (Write w n) (writes_of w n) (elim (cases_lt r n) [ inl lower ↦ inr (write_in w n r lower) | inr more ↦ inl (ap (Write w) (let same : r ≡ n = omega (arith, lt, more) in same)) ])

among_writes : (n readers w r : ℕ) → w < n → r < readers → IsIn (all_writes n readers) (Write w r)
unfolding all_writes
among_writes zero readers w r lt below = absurd (omega (arith, lt))
among_writes (suc n) readers w r lt below = elim (cases_lt w n) [
  | inl lower ↦ has_later (Write w r) (writes_of n readers) (all_writes n readers) (among_writes n readers w r lower below)
  | inr more ↦ has_more same_section section_refl (Write w r) (writes_of n readers) (all_writes n readers) (subst (λ k. IsIn (writes_of k readers) (Write w r)) (let same : w ≡ n = omega (arith, lt, more) in same) (write_in w readers r below))
]

module _ (W R : List Node) where
  all_sections : List Section
  all_sections = Main ∷ (all_writes (length W) (length R) ++ skips_of (length W))

  both_there : (x y : Option Node) (p : List FieldNode × List FieldNode) → field_lists x y ≡ Some p → (a b : Node) × (x ≡ Some a) × (y ≡ Some b)
  both_there (Some (RecordNode n fs)) (Some (RecordNode m gs)) p e = (RecordNode n fs, RecordNode m gs, refl, refl)
  both_there _ _ p e = absurd cc

  among : (s : Section) → IsRoutine W R s → IsIn all_sections s
  unfolding all_sections
  among Main h = refl
  among (Write w r) h =
      let two = both_there (slice_get W w) (slice_get R r) h.0 h.1 in
      has_more same_section section_refl (Write w r) (all_writes (length W) (length R)) (skips_of (length W))
      (among_writes (length W) (length R) w r (slice_get_within W w two.0 two.2) (slice_get_within R r two.1 two.3))
  among (Skip w) h = has_later (Skip w) (all_writes (length W) (length R)) (skips_of (length W)) (skip_in (length W) w (slice_get_within W w (RecordNode h.0 h.1) h.2))

  all_among : (ss : List Section) → AllByRecursion (IsRoutine W R) ss → AllByRecursion (IsIn all_sections) ss
  all_among [] h = tt
  all_among (s ∷ ss) h = (among s h.0, all_among ss h.1)

-- more than n sections that are apart, so that n rounds were not enough
record Left (W R : List Node) (n : ℕ) : Type 0 where
  sections : List Section
  routines : AllByRecursion (IsRoutine W R) sections
  apart : AreApart sections
  many : n < length sections

module _ (W R : List Node) (formed : IsWellFormed W) (theirs : IsWellFormed R) where
  abbrev next : List Section → Section → List Section
  next ss s = adding same_section ss (named_in calls_of (section W R s))

  left_over : (n i : ℕ) (ss : List Section) → AllByRecursion (IsRoutine W R) ss → AreApart ss → reached (section W R) n i ss ≡ None → Left W R (i + n)
  left_over zero i ss all apart none = go (slice_get ss i) refl none
    where
      go : (o : Option Section) → slice_get ss i ≡ o → ◌≡◌ {A = Option (List Section)} (given o (Some ss) (λ s. None)) None → Left W R (i + 0)
      go None e none = absurd cc
      go (Some s) e none = let lt = slice_get_within ss i s e in record { sections = ss; routines = all; apart = apart; many = omega (arith, lt) }
  left_over (suc n) i ss all apart none = go (slice_get ss i) refl (λ s e rest. left_over n (i + 1) (next ss s) (all_added same_section (IsRoutine W R) (named_in calls_of (section W R s)) ss (routines_called W R formed theirs s (got (IsRoutine W R) ss i s all e)) all) (apart_added (named_in calls_of (section W R s)) ss apart) rest) none
    where
      go : (o : Option Section) → slice_get ss i ≡ o → ((s : Section) → slice_get ss i ≡ Some s → reached (section W R) n (i + 1) (next ss s) ≡ None → Left W R (i + 1 + n)) → ◌≡◌ {A = Option (List Section)} (elim o [ None ↦ Some ss | Some s ↦ reached (section W R) n (i + 1) (next ss s) ]) None → Left W R (i + suc n)
      go None e f none = absurd cc
      go (Some s) e f none = subst (Left W R) (let z : i + 1 + n ≡ i + suc n = omega arith in z) (f s e none)

  pub sections_are_found : SectionsAreFound W R
  sections_are_found = go (reached (section W R) (length (all_sections W R)) 0 (Main ∷ [])) refl
    where
      go : (o : Option (List Section)) → reached (section W R) (length (all_sections W R)) 0 (Main ∷ []) ≡ o → (n : ℕ) × (ss : List Section) × AreAll W R n ss
      go (Some ss) e = (length (all_sections W R), ss, e)
      go None e =
          let left = left_over (length (all_sections W R)) 0 (Main ∷ []) (tt, tt) (refl, tt) e in
          let few = no_more left.sections (all_sections W R) left.apart (all_among W R left.sections left.routines) in
          let many = left.many in
          absurd (omega (arith, few, many))
