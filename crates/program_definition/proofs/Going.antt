-- The compiler's loop: one round for each section, and what it has at its end.
use Rattle.std.proofs.Common.{◌≡◌, ℕ, zero, suc, ◌+◌, ◌<◌, ◌≤◌, Bool, true, false, ◌&&◌, List, [], ◌∷◌, ◌++◌, length, take, Option, Some, None, refl, sym, ap, ◌∙◌, arith, length-append, append_assoc, append-nil}
use Rattle.std.specs.Prelude.{slice_get, if◌then◌else◌}
use Rattle.spec_avro.specs.Node.{Node}
use Rattle.spec_avro.specs.Options.{given}
use Rattle.spec_machine.specs.declared.limits.TheConstants.{MOST_INSTRS}
use Rattle.spec_machine.specs.Judging.{is_within_limits}
use Rattle.spec_machine.specs.Program.{Program}
use Rattle.spec_machine.specs.Code.{are_whole, assembled, checked, code_of, statements_of, reached, start_in}
use Rattle.program_definition.specs.Limits.{whole_program}
use Rattle.spec_machine.specs.Statements.{Section, Main, Statement}
use Rattle.spec_machine.specs.Numbering.{adding, calls_of, named_in, numbered, same_section}
use Rattle.spec_machine.specs.Writing.{section}
use Rattle.program_definition.proofs.Limits.{passes_limit}
use Rattle.program_definition.proofs.Numbers.{Extends, added, section_refl}
use Rattle.program_definition.proofs.Ranges.{code_length}
use Rattle.program_definition.proofs.Whole.{sections_long, some_statements}

module _ (section : Section → List Statement) where
  abbrev pub next : List Section → Section → List Section
  next ss s = adding same_section ss (named_in calls_of (section s))

  -- sections so far, of which the first i are done, and their statements
  pub record Going (i : ℕ) (ss : List Section) (ls : List Statement) : Type 0 where
    pub rounds : ℕ
    pub left : i + rounds ≡ MOST_INSTRS
    pub same : reached section MOST_INSTRS 0 (Main ∷ []) ≡ reached section rounds i ss
    pub here : i ≤ length ss
    pub statements : ls ≡ statements_of section (take i ss)

  pub going_init : Going 0 (Main ∷ []) []
  going_init = record { rounds = MOST_INSTRS; left = refl; same = refl; here = omega arith; statements = refl }

  statements_append : (a b : List Section) → statements_of section (a ++ b) ≡ statements_of section a ++ statements_of section b
  statements_append [] b = refl
  statements_append (s ∷ a) b = ap (λ l. section s ++ l) (statements_append a b) ∙ sym (append_assoc (section s) (statements_of section a) (statements_of section b))

  take_on : (ss : List Section) (i : ℕ) (s : Section) → slice_get ss i ≡ Some s → take (suc i) ss ≡ take i ss ++ s ∷ []
  take_on [] i s e = absurd cc
  take_on (x ∷ ss) zero s e = let same : x ≡ s = cc in ap (λ y. y ∷ []) same
  take_on (x ∷ ss) (suc i) s e = ap (λ l. x ∷ l) (take_on ss i s e)

  take_front : (ss more : List Section) (i : ℕ) → i ≤ length ss → take i (ss ++ more) ≡ take i ss
  take_front ss more zero le = refl
  take_front [] more (suc i) le = absurd (omega arith)
  take_front (x ∷ ss) more (suc i) le = ap (λ l. x ∷ l) (take_front ss more i (omega arith))

  take_whole : (ss : List Section) (i : ℕ) → length ss ≤ i → take i ss ≡ ss
  take_whole [] zero le = refl
  take_whole [] (suc i) le = refl
  take_whole (x ∷ ss) zero le = absurd (omega arith)
  take_whole (x ∷ ss) (suc i) le = ap (λ l. x ∷ l) (take_whole ss i (omega arith))

  within : (ss : List Section) (i : ℕ) (s : Section) → slice_get ss i ≡ Some s → i < length ss
  within [] i s e = absurd cc
  within (x ∷ ss) zero s e = omega arith
  within (x ∷ ss) (suc i) s e = let k = within ss i s e in omega arith

  past : (ss : List Section) (i : ℕ) → slice_get ss i ≡ None → length ss ≤ i
  past [] i e = omega arith
  past (x ∷ ss) zero e = absurd cc
  past (x ∷ ss) (suc i) e = let k = past ss i e in omega arith

  abbrev Round : ℕ → ℕ → List Section → Option Section → Option (List Section)
  Round n i ss o = elim o [ None ↦ Some ss | Some s ↦ reached section n (i + 1) (next ss s) ]

  -- a round: the section's statements come after the others, and its calls to the list
  pub going_on : (i : ℕ) (ss : List Section) (ls : List Statement) (s : Section) → Going i ss ls → slice_get ss i ≡ Some s → i < MOST_INSTRS → Going (i + 1) (next ss s) (ls ++ section s)
  going_on i ss ls s g at lt = go g.rounds g.left g.same
    where
      more : Extends same_section section_refl ss (next ss s)
      more = (added same_section section_refl (named_in calls_of (section s)) ss).0

      long : i < length ss
      long = within ss i s at

      longer : length ss ≤ length (next ss s)
      longer = let e : length (next ss s) ≡ length (ss ++ more.0) = ap length more.1 in omega (arith, e, length-append ss more.0)

      took : take (i + 1) (next ss s) ≡ take i ss ++ s ∷ []
      took = let e : i + 1 ≡ suc i = omega arith in ap (take (i + 1)) more.1 ∙ take_front ss more.0 (i + 1) (omega (arith, long)) ∙ ap (λ k. take k ss) e ∙ take_on ss i s at

      statements : ls ++ section s ≡ statements_of section (take (i + 1) (next ss s))
      statements = ap (λ l. l ++ section s) g.statements ∙ ap (λ l. statements_of section (take i ss) ++ l) (sym (append-nil (section s))) ∙ sym (statements_append (take i ss) (s ∷ [])) ∙ ap (statements_of section) (sym took)

      go : (n : ℕ) → i + n ≡ MOST_INSTRS → reached section MOST_INSTRS 0 (Main ∷ []) ≡ reached section n i ss → Going (i + 1) (next ss s) (ls ++ section s)
      go zero left same = absurd (omega arith)
      go (suc n) left same = record { rounds = n; left = omega arith; same = same ∙ ap (Round n i ss) at; here = omega (arith, long, longer); statements = statements }

  -- what is reached comes after what was there
  reached_extends : (n i : ℕ) (ss qs : List Section) → reached section n i ss ≡ Some qs → Extends same_section section_refl ss qs
  reached_extends zero i ss qs h = go (slice_get ss i) h
    where
      go : (o : Option Section) → given o (Some ss) (λ s. None) ≡ Some qs → Extends same_section section_refl ss qs
      go None h = let same : qs ≡ ss = cc in ([], same ∙ sym (append-nil ss))
      go (Some s) h = absurd cc
  reached_extends (suc n) i ss qs h = go (slice_get ss i) (λ s h. reached_extends n (i + 1) (next ss s) qs h) h
    where
      go : (o : Option Section) → ((s : Section) → reached section n (i + 1) (next ss s) ≡ Some qs → Extends same_section section_refl (next ss s) qs) → Round n i ss o ≡ Some qs → Extends same_section section_refl ss qs
      go None rest h = let same : qs ≡ ss = cc in ([], same ∙ sym (append-nil ss))
      go (Some s) rest h =
          let a = (added same_section section_refl (named_in calls_of (section s)) ss).0 in
          let b = rest s h in
          (a.0 ++ b.0, b.1 ∙ ap (λ l. l ++ b.0) a.1 ∙ append_assoc ss a.0 b.0)

  reached_done : (n i : ℕ) (ss : List Section) → slice_get ss i ≡ None → reached section n i ss ≡ Some ss
  reached_done zero i ss e = ap (λ o. given o (Some ss) (λ s. None)) e
  reached_done (suc n) i ss e = ap (Round n i ss) e

  -- the first sections' statements are among all
  front_statements : (ss more : List Section) (i : ℕ) (s : Section) → slice_get ss i ≡ Some s → length (statements_of section (take i ss)) + length (section s) ≤ length (statements_of section (ss ++ more))
  front_statements [] more i s e = absurd cc
  front_statements (x ∷ ss) more zero s e = let same : x ≡ s = cc in let k : length (section x) ≡ length (section s) = ap (λ y. length (section y)) same in omega (arith, k, length-append (section x) (statements_of section (ss ++ more)))
  front_statements (x ∷ ss) more (suc i) s e = let k = front_statements ss more i s e in omega (arith, k, length-append (section x) (statements_of section (ss ++ more)), length-append (section x) (statements_of section (take i ss)))

module _ (W R : List Node) where
  -- a section is left, and there is no room
  pub no_room : (i : ℕ) (ss : List Section) (ls : List Statement) (s : Section) → Going (section W R) i ss ls → slice_get ss i ≡ Some s → MOST_INSTRS ≤ length ls → code_of W R ≡ None
  unfolding code_of
  no_room i ss ls s g at le = ap (assembled (section W R)) g.same ∙ go (reached (section W R) g.rounds i ss) refl
    where
      not_fit : (qs : List Section) (P : Program) → is_within_limits P ≡ false → checked (statements_of (section W R) qs) P ≡ None
      not_fit qs P e = both (are_whole (statements_of (section W R) qs)) (is_within_limits P) e
        where
          both : (a b : Bool) → b ≡ false → ◌≡◌ {A = Option Program} (if a && b then Some P else None) None
          both true true e = absurd cc
          both true false e = refl
          both false b e = refl

      go : (o : Option (List Section)) → reached (section W R) g.rounds i ss ≡ o → assembled (section W R) o ≡ None
      go None e = refl
      go (Some qs) e =
          let x = reached_extends (section W R) g.rounds i ss qs e in
          let len : length ls ≡ length (statements_of (section W R) (take i ss)) = ap length g.statements in
          let all : length (statements_of (section W R) qs) ≡ length (statements_of (section W R) (ss ++ x.0)) = ap (λ l. length (statements_of (section W R) l)) x.1 in
          let P = whole_program W R qs in
          not_fit qs P (passes_limit P (omega (arith, le, len, all, front_statements (section W R) ss x.0 i s at, some_statements W R s, code_length (start_in (section W R) 0 qs) P.constants P.misses 0 0 0 (statements_of (section W R) qs))))

  -- all sections are done
  pub done : (i : ℕ) (ss : List Section) (ls : List Statement) → Going (section W R) i ss ls → length ss ≤ i → slice_get ss i ≡ None → code_of W R ≡ checked ls (numbered (start_in (section W R) 0 ss) ls)
  unfolding code_of
  done i ss ls g le e =
      let statements : statements_of (section W R) ss ≡ ls = ap (statements_of (section W R)) (sym (take_whole (section W R) ss i le)) ∙ sym g.statements in
      ap (assembled (section W R)) (g.same ∙ reached_done (section W R) g.rounds i ss e)
      ∙ ap (λ l. checked l (numbered (start_in (section W R) 0 ss) l)) statements

  -- the rounds so far are fewer than `MOST_INSTRS`
  pub rounds_left : (i : ℕ) (ss : List Section) (ls : List Statement) → Going (section W R) i ss ls → length ls < MOST_INSTRS → i < MOST_INSTRS
  rounds_left i ss ls g lt =
      let len : length ls ≡ length (statements_of (section W R) (take i ss)) = ap length g.statements in
      omega (arith, lt, len, sections_long W R (take i ss), took (section W R) ss i g.here)
    where
      took : (f : Section → List Statement) (ss : List Section) (i : ℕ) → i ≤ length ss → length (take i ss) ≡ i
      took f ss zero le = refl
      took f [] (suc i) le = absurd (omega arith)
      took f (x ∷ ss) (suc i) le = ap suc (took f ss i (omega arith))
