-- Where the sections begin, one after the other.
use Rattle.std.proofs.Common.{◌≡◌, ℕ, zero, suc, ◌+◌, Bool, true, false, List, [], ◌∷◌, ◌++◌, length, take, Some, refl, sym, ap, ◌∙◌, arith, length-append, append_assoc}
use Rattle.std.specs.Prelude.{slice_get, slice_index_or, if◌then◌else◌}
use Rattle.spec_avro.specs.Options.{given}
use Rattle.spec_machine.specs.Code.{statements_of, start_in}
use Rattle.spec_machine.specs.Statements.{Statement, Section}
use Rattle.spec_machine.specs.Numbering.{adding, calls_of, named_in, same_section}
use Rattle.program_definition.proofs.Numbers.{Extends, added, section_refl}
use Rattle.program_ir.specs.Sections.{place_from}

get_at : (front more : List ℕ) (x d : ℕ) → slice_index_or (front ++ x ∷ more) (length front) d ≡ x
get_at [] more x d = refl
get_at (y ∷ front) more x d = get_at front more x d

module _ (section : Section → List Statement) where
  -- the sections' begins, of which the first is at pc
  abbrev pub starts_of : ℕ → List Section → List ℕ
  starts_of pc [] = []
  starts_of pc (s ∷ ss) = pc ∷ starts_of (pc + length (section s)) ss

  -- one section more begins after the statements of the others
  starts_on : (pc : ℕ) (ss : List Section) (s : Section) → starts_of pc (ss ++ s ∷ []) ≡ starts_of pc ss ++ (pc + length (statements_of section ss)) ∷ []
  starts_on pc [] s = let e : pc ≡ pc + 0 = omega arith in ap (λ k. k ∷ []) e
  starts_on pc (x ∷ ss) s =
      let e : pc + length (section x) + length (statements_of section ss) ≡ pc + length (section x ++ statements_of section ss) = omega (arith, length-append (section x) (statements_of section ss)) in
      ap (λ l. pc ∷ l) (starts_on (pc + length (section x)) ss s ∙ ap (λ k. starts_of (pc + length (section x)) ss ++ k ∷ []) e)

  take_next : (ss more : List Section) (i : ℕ) (s : Section) → slice_get ss i ≡ Some s → take (suc i) (ss ++ more) ≡ take i ss ++ s ∷ []
  take_next [] more i s e = absurd cc
  take_next (x ∷ ss) more zero s e = let same : x ≡ s = cc in ap (λ y. y ∷ []) same
  take_next (x ∷ ss) more (suc i) s e = ap (λ l. x ∷ l) (take_next ss more i s e)

  -- a round's begin comes after the others
  pub starts_next : (i at : ℕ) (ss : List Section) (s : Section) (starts : List ℕ) → slice_get ss i ≡ Some s → starts ≡ starts_of 0 (take i ss) → at ≡ length (statements_of section (take i ss)) → starts ++ at ∷ [] ≡ starts_of 0 (take (i + 1) (adding same_section ss (named_in calls_of (section s))))
  starts_next i at ss s starts here so_far e =
      let more : Extends same_section section_refl ss (adding same_section ss (named_in calls_of (section s))) = (added same_section section_refl (named_in calls_of (section s)) ss).0 in
      let next : i + 1 ≡ suc i = omega arith in
      let from : at ≡ 0 + length (statements_of section (take i ss)) = omega (arith, e) in
      ap (λ l. l ++ at ∷ []) so_far ∙ ap (λ k. starts_of 0 (take i ss) ++ k ∷ []) from
      ∙ sym (starts_on 0 (take i ss) s) ∙ sym (ap (starts_of 0) (ap (λ k. take k (adding same_section ss (named_in calls_of (section s)))) next ∙ ap (take (suc i)) more.1 ∙ take_next ss more.0 i s here))

  -- what is at a section's place is where it begins
  pub place_start : (front : List ℕ) (pc d : ℕ) (ss : List Section) (s : Section) → d ≡ pc + length (statements_of section ss) → given (place_from (length front) s ss) d (λ n. slice_index_or (front ++ starts_of pc ss) n d) ≡ start_in section pc ss s
  place_start front pc d [] s e = omega (arith, e)
  place_start front pc d (x ∷ ss) s e = go (same_section s x) (rest (place_start (front ++ pc ∷ []) (pc + length (section x)) d ss s after))
    where
      long : length (front ++ pc ∷ []) ≡ suc (length front)
      long = omega (arith, length-append front (pc ∷ []))

      after : d ≡ pc + length (section x) + length (statements_of section ss)
      after = omega (arith, e, length-append (section x) (statements_of section ss))

      rest : given (place_from (length (front ++ pc ∷ [])) s ss) d (λ n. slice_index_or ((front ++ pc ∷ []) ++ starts_of (pc + length (section x)) ss) n d) ≡ start_in section (pc + length (section x)) ss s
          → given (place_from (suc (length front)) s ss) d (λ n. slice_index_or (front ++ pc ∷ starts_of (pc + length (section x)) ss) n d) ≡ start_in section (pc + length (section x)) ss s
      rest ih = ap (λ n. given (place_from n s ss) d (λ n. slice_index_or (front ++ pc ∷ starts_of (pc + length (section x)) ss) n d)) (sym long)
          ∙ ap (λ l. given (place_from (length (front ++ pc ∷ [])) s ss) d (λ n. slice_index_or l n d)) (sym (append_assoc front (pc ∷ []) (starts_of (pc + length (section x)) ss)))
          ∙ ih

      go : (b : Bool) → given (place_from (suc (length front)) s ss) d (λ n. slice_index_or (front ++ pc ∷ starts_of (pc + length (section x)) ss) n d) ≡ start_in section (pc + length (section x)) ss s
          → given (if b then Some (length front) else place_from (suc (length front)) s ss) d (λ n. slice_index_or (front ++ pc ∷ starts_of (pc + length (section x)) ss) n d) ≡ (if b then pc else start_in section (pc + length (section x)) ss s)
      go true rest = get_at front (starts_of (pc + length (section x)) ss) pc d
      go false rest = rest
