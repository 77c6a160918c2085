-- Reading one line after the other, as a loop does.
use Rattle.std.proofs.Common.{◌≡◌, ℕ, ◌+◌, List, [], ◌∷◌, length, cond, eqb, true, false, Result, Ok, Err, refl, sym, ap, ◌∙◌, add-one}
use Rattle.spec_machine.specs.Program.{Program}
use Rattle.spec_machine.specs.declared.listing_fault.AsmError.{AsmError}
use Rattle.spec_machine.specs.declared.listing_fault.AsmError.TheVariants as errors
use Rattle.spec_machine.specs.declared.listing_fault.AsmErrorKind.TheVariants.{BadHeader, BadLine}
use Rattle.spec_machine.specs.declared.listing_fault.AsmFault.{AsmFault}
use Rattle.std.specs.Prelude.{codes}
use Rattle.std.specs.Str.{bytes_eq}
use Rattle.spec_machine.specs.Assembling.{◌>>=◌, after_header, fault, nothing, with_header, with_lines, with_words}
use Rattle.assembler.specs.Assembling.{Fails}
use Rattle.spec_machine.specs.ListingWords.{parts, words}
use Rattle.assembler.proofs.Parts.{parts_some}

pub one_line : (at : ℕ) (P : Program) (line rest : List ℕ)
    → with_lines at P (line ∷ parts 10 rest) ≡ (with_words at P (words line) >>= λ Q. with_lines (at + 1) Q (parts 10 rest))
unfolding with_lines
one_line at P line rest = let s = parts_some 10 rest in rw (s.2, add-one at) refl

fails_then : (e : AsmError) (one : Result Program AsmFault) (more : Program → Result Program AsmFault) → Fails e one → Fails e (one >>= more)
fails_then errors.NoMemory one more h = tt
fails_then (errors.Fault f) one more h = ap (λ (r : Result Program AsmFault). r >>= more) h

module _ (at : ℕ) (P : Program) (text : List ℕ) (total : Result Program AsmFault) (so_far : with_lines at P (parts 10 text) ≡ total) where
  split : (line rest : List ℕ) → parts 10 text ≡ line ∷ parts 10 rest → total ≡ (with_words at P (words line) >>= λ Q. with_lines (at + 1) Q (parts 10 rest))
  split line rest e = sym so_far ∙ ap (with_lines at P) e ∙ one_line at P line rest

  pub line_read : (line rest : List ℕ) (Q : Program) → parts 10 text ≡ line ∷ parts 10 rest → with_words at P (words line) ≡ Ok Q → with_lines (at + 1) Q (parts 10 rest) ≡ total
  line_read line rest Q e h = sym (split line rest e ∙ ap (λ (r : Result Program AsmFault). r >>= λ Q. with_lines (at + 1) Q (parts 10 rest)) h)

  pub line_fails : (e : AsmError) (line rest : List ℕ) → parts 10 text ≡ line ∷ parts 10 rest → Fails e (with_words at P (words line)) → Fails e total
  line_fails e line rest is h = rw (split line rest is) (fails_then e (with_words at P (words line)) (λ Q. with_lines (at + 1) Q (parts 10 rest)) h)

  end_read : parts 10 text ≡ text ∷ [] → total ≡ cond (eqb (length text) 0) (Ok P) (Err (fault BadLine at))
  unfolding with_lines
  end_read e = sym so_far ∙ ap (with_lines at P) e

  pub good_end : parts 10 text ≡ text ∷ [] → eqb (length text) 0 ≡ true → total ≡ Ok P
  good_end e h = end_read e ∙ ap (λ b. cond b (Ok P) (Err (fault BadLine at))) h

  pub bad_end : parts 10 text ≡ text ∷ [] → eqb (length text) 0 ≡ false → total ≡ Err (fault BadLine at)
  bad_end e h = end_read e ∙ ap (λ b. cond b (Ok P) (Err (fault BadLine at))) h

pub lines_after : (rest : List ℕ) → after_header (parts 10 rest) ≡ with_lines 2 nothing (parts 10 rest)
lines_after rest = let s = parts_some 10 rest in rw s.2 refl

pub under_header : (text header rest : List ℕ) → parts 10 text ≡ header ∷ parts 10 rest → bytes_eq header (codes "avro program 1") ≡ true
    → with_header (parts 10 text) ≡ with_lines 2 nothing (parts 10 rest)
unfolding with_header
under_header text header rest e h =
    ap with_header e
    ∙ ap (λ b. cond b (after_header (parts 10 rest)) (Err (fault BadHeader 1))) h
    ∙ lines_after rest
