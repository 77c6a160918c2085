-- A text is assembled just where it is the listing of a program.
use Rattle.std.proofs.Common.{◌≡◌, ℕ, cond, Bool, true, false, List, [], ◌∷◌, ◌++◌, Option, Some, None, Result, Ok, Err, refl, sym, ap, subst, ◌∙◌}
use Rattle.std.specs.Prelude.{codes, IfOk}
use Rattle.std.specs.Str.{bytes_eq}
use Rattle.spec_machine.specs.declared.program_error.ProgramError.{ProgramError}
use Rattle.spec_machine.specs.Judging.{first_error, judged}
use Rattle.spec_machine.specs.Program.{Program}
use Rattle.spec_machine.specs.Range.{IsProgram}
use Rattle.isa.proofs.Judged.{sound}
use Rattle.spec_machine.specs.declared.listing_fault.AsmError.{AsmError}
use Rattle.spec_machine.specs.declared.listing_fault.AsmErrorKind.TheVariants.{BadHeader}
use Rattle.assembler.specs.Assembling.{Gives}
use Rattle.spec_machine.specs.Assembling.{after_header, assembled, fault, in_range, nothing, with_header}
use Rattle.spec_machine.specs.Listing.{listing_of}
use Rattle.spec_machine.specs.ListingWords.{parts}
use Rattle.assembler.proofs.Fit.{Fits, program_fits}
use Rattle.assembler.proofs.Joined.{joined, joined_parts}
use Rattle.assembler.proofs.Said.{same_bytes}
use Rattle.assembler.proofs.Taken.{bind_ok, lines_grow, ok_is}

abbrev judged_by : Program → Option ProgramError → Result Program ProgramError
judged_by P o = elim o [ Some e ↦ Err e | None ↦ Ok P ]

range_ok : (D P : Program) (o : Option ProgramError) → first_error D ≡ o → in_range D (judged_by D o) ≡ Ok P → (D ≡ P) × IsProgram P
range_ok D P None none e = let is : D ≡ P = ok_is D P e in (is, subst IsProgram is (sound D none))
range_ok D P (Some wrong) is e = absurd cc

lines_taken : (ls : List (List ℕ)) (D : Program) → after_header ls ≡ Ok D → Fits D → listing_of D ≡ codes "avro program 1" ++ 10 ∷ joined 10 ls
lines_taken [] D e fit = absurd cc
lines_taken (l ∷ ls) D e fit = (lines_grow 2 nothing (l ∷ ls) D e fit).1

header_taken : (ps : List (List ℕ)) (D : Program) → with_header ps ≡ Ok D → Fits D → listing_of D ≡ joined 10 ps
unfolding with_header
header_taken [] D e fit = absurd cc
header_taken (h ∷ ls) D e fit = by_header (bytes_eq h (codes "avro program 1")) refl e where
  by_lines : (ls : List (List ℕ)) → after_header ls ≡ Ok D → listing_of D ≡ codes "avro program 1" ++ 10 ∷ joined 10 ls → listing_of D ≡ joined 10 (codes "avro program 1" ∷ ls)
  by_lines [] e g = absurd cc
  by_lines (l ∷ ls) e g = g

  by_header : (t : Bool) → bytes_eq h (codes "avro program 1") ≡ t → cond t (after_header ls) (Err (fault BadHeader 1)) ≡ Ok D → listing_of D ≡ joined 10 (h ∷ ls)
  by_header true is e = subst (λ (g : List ℕ). listing_of D ≡ joined 10 (g ∷ ls)) (sym (same_bytes h (codes "avro program 1") is)) (by_lines ls e (lines_taken ls D e fit))
  by_header false is e = absurd cc

assembled_taken : (text : List ℕ) (P : Program) → assembled text ≡ Ok P → text ≡ listing_of P
unfolding assembled
assembled_taken text P e =
    let b = bind_ok (with_header (parts 10 text)) (λ D. in_range D (judged D)) P e in
    let r = range_ok b.0 P (first_error b.0) refl b.2 in
    let h : with_header (parts 10 text) ≡ Ok P = b.1 ∙ ap (λ (D : Program). Ok D) r.0 in
    sym (header_taken (parts 10 text) P h (program_fits P r.1) ∙ joined_parts 10 text)

pub is_found : (text : List ℕ) (r : Result Program AsmError) → Gives (λ P. P) r (assembled text) → IfOk r (λ P. text ≡ listing_of P)
is_found text (Ok P) given = assembled_taken text P given
is_found text (Err e) given = tt
