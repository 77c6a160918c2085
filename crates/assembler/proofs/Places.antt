-- What is out of range is in a list that is not long.
use Rattle.std.proofs.Common.{◌≡◌, ℕ, suc, ◌+◌, ◌^◌, ◌<◌, Bool, true, false, not, cond, List, [], ◌∷◌, length, eqb, Option, Some, None, Result, Ok, Err, refl, sym, ap, subst, ◌∙◌, arith}
use Rattle.std.specs.Prelude.{option_map, IfSome}
use Rattle.std.specs.Option.{option_or}
use Rattle.std.proofs.lemmas.List.Quantifiers.{position-Some}
use Rattle.spec_avro.specs.declared.mismatch.Mismatch.{Mismatch}
use Rattle.spec_avro.specs.declared.mismatch.MismatchKind.TheVariants.{NoMatch}
use Rattle.spec_machine.specs.declared.instr.Instr.TheVariants.{Bool as Boolean}
use Rattle.spec_machine.specs.declared.entry.Entry.TheVariants.{Position}
use Rattle.spec_machine.specs.declared.program_error.ProgramError.{ProgramError}
use Rattle.spec_machine.specs.declared.program_error.ProgramError.TheVariants as wrong
use Rattle.spec_machine.specs.Program.{Program}
use Rattle.spec_machine.specs.Judging.{address_out_of_range, at_list, entry_out_of_range, first_empty, first_error, first_out, first_out_from, first_out_of_range, instr_out_of_range, is_within_limits, judged, miss_out_of_range}
use Rattle.spec_machine.specs.Range.{sizes_of}
use Rattle.spec_machine.specs.declared.listing_fault.AsmFault.{AsmFault}
use Rattle.spec_machine.specs.Assembling.{fault_of, in_range, line_of_code}
use Rattle.assembler.specs.Assembling.{index_of}
use Rattle.assembler.specs.Draft.{IsDraft}

abbrev IsSmall : ProgramError → Type 0
IsSmall e = index_of e < 2 ^ 32

abbrev AreSmall : Option ProgramError → Type 0
AreSmall o = IfSome o IsSmall

small_or : (a b : Option ProgramError) → AreSmall a → AreSmall b → AreSmall (option_or a b)
small_or (Some e) b h g = h
small_or None b h g = g

small_if : (t : Bool) (a b : Option ProgramError) → AreSmall a → AreSmall b → AreSmall (cond t a b)
small_if true a b h g = h
small_if false a b h g = g

small_map : {A : Type 0} (f : A → ProgramError) (o : Option A) → ((x : A) → o ≡ Some x → IsSmall (f x)) → AreSmall (option_map f o)
small_map f (Some x) h = h x refl
small_map f None h = tt

module _ {A : Type 0} (test : A → Bool) (d : A) where
  below : (xs : List A) (i : ℕ) → first_out test xs ≡ Some i → i < length xs
  below xs i e = let p = position-Some (λ x. not (test x)) xs i d e in p.0

  turn : (n : ℕ) (o : Option ℕ) (others : Option (ℕ × ℕ)) (k : ℕ) (p : ℕ × ℕ) → ((q : ℕ × ℕ) → others ≡ Some q → q.0 < suc n + k) → at_list n o others ≡ Some p → p.0 < n + suc k
  turn n (Some i) others k p h e = let same : n ≡ p.0 = ap (λ (r : Option (ℕ × ℕ)). first_or n r) e in omega (arith, same) where
    first_or : ℕ → Option (ℕ × ℕ) → ℕ
    first_or n (Some q) = q.0
    first_or n None = n
  turn n None others k p h e = let less = h p e in omega (arith, less)

  below_in : (n : ℕ) (lists : List (List A)) (p : ℕ × ℕ) → first_out_from test n lists ≡ Some p → p.0 < n + length lists
  below_in n [] p e = absurd cc
  below_in n (xs ∷ lists) p e = turn n (first_out test xs) (first_out_from test (suc n) lists) (length lists) p (below_in (suc n) lists) e

abbrev none_missed : Mismatch
none_missed = record { kind = NoMatch; writer_node = 0; reader_node = 0 }

small_error : (P : Program) (room : ℕ) → IsDraft P room → AreSmall (first_error P)
small_error P room h =
    let n = sizes_of P in
    let entries : AreSmall (entry_out_of_range n P) = small_map (λ p. wrong.Entry p.0 p.1) _ (λ p e. let less = below_in _ (Position 0) 0 P.maps p e in omega (arith, less, h.maps)) in
    let addresses : AreSmall (address_out_of_range n P) = small_map (λ p. wrong.Address p.0 p.1) _ (λ p e. let less = below_in _ 0 0 P.jumps p e in omega (arith, less, h.jumps)) in
    let misses : AreSmall (miss_out_of_range n P) = small_map wrong.Miss _ (λ i e. let less = below _ none_missed P.misses i e in omega (arith, less, h.misses)) in
    let instrs : AreSmall (instr_out_of_range n P) = small_map wrong.Instr _ (λ i e. let less = below _ Boolean P.code i e in omega (arith, less, h.code)) in
    let range : AreSmall (first_out_of_range P) = small_or _ _ (small_or _ _ (small_or _ _ entries addresses) misses) instrs in
    let empty : AreSmall (option_map wrong.EmptyConstant (first_empty P.constants)) = small_map wrong.EmptyConstant _ (λ i e. omega arith) in
    small_if (eqb (length P.code) 0) (Some wrong.NoCode) _ (omega arith)
    (small_if (not (is_within_limits P)) (Some wrong.TooLarge) _ (omega arith) (small_or _ _ empty range))

abbrev judged_by : Program → Option ProgramError → Result Program ProgramError
judged_by P o = elim o [ Some x ↦ Err x | None ↦ Ok P ]

by_error : (P : Program) (o : Option ProgramError) (e : ProgramError) → AreSmall o → judged_by P o ≡ Err e → IsSmall e
by_error P (Some x) e h is = let same : x ≡ e = cc in subst IsSmall same h
by_error P None e h is = absurd cc

pub small : (P : Program) (room : ℕ) (e : ProgramError) → IsDraft P room → judged P ≡ Err e → index_of e < 2 ^ 32
small P room e h is = by_error P (first_error P) e (small_error P room h) is

pub fits : (P Q : Program) (room code : ℕ) (e : ProgramError) → P ≡ Q → IsDraft Q room → code ≡ line_of_code P → Err e ≡ judged Q → code + index_of e < 2 ^ 64
fits P Q room code e same d is told =
    let own : IsDraft P room = subst (λ (X : Program). IsDraft X room) (sym same) d in
    let less = small Q room e d (sym told) in
    omega (arith, less, is, own.constants, own.maps, own.jumps, own.misses)

-- ---- a draft judged

pub told : (P Q : Program) (r : Result Program ProgramError) → P ≡ Q → r ≡ judged Q → in_range P (judged P) ≡ in_range P r
told P Q r same e = ap (λ (X : Program). in_range P (judged X)) same ∙ ap (in_range P) (sym e)

pub told_fault : (P Q : Program) (e : ProgramError) (f : AsmFault) → P ≡ Q → Err e ≡ judged Q → f ≡ fault_of P e → in_range P (judged P) ≡ Err f
told_fault P Q e f same is h = told P Q (Err e) same is ∙ ap (λ (g : AsmFault). Err g) (sym h)
