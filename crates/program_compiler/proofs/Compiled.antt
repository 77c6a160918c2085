-- A program of all statements is the pair's, and where there is none the pair has none.
use Rattle.std.proofs.Common.{◌≡◌, ℕ, ◌+◌, Bool, true, false, not, List, [], ◌∷◌, length, map, Option, Some, None, Result, Ok, Err, refl, sym, ap, subst, ◌∙◌}
use Rattle.std.specs.Prelude.{◌==◌, ◌&&◌, if◌then◌else◌, is_ok}
use Rattle.spec_avro.specs.Node.{Node}
use Rattle.spec_avro.specs.declared.mismatch.Mismatch.{Mismatch}
use Rattle.spec_machine.specs.declared.instr.Instr.TheVariants as op
use Rattle.isa.specs.declared.parts.Parts.{Parts}
use Rattle.spec_machine.specs.declared.program_error.ProgramError.{ProgramError}
use Rattle.spec_machine.specs.declared.program_error.ProgramError.TheVariants.{NoCode, TooLarge}
use Rattle.spec_machine.specs.Judging.{first_error, is_within_limits, judged}
use Rattle.spec_machine.specs.Program.{Program}
use Rattle.isa.specs.Program.{program_of}
use Rattle.spec_machine.specs.Range.{IsProgram}
use Rattle.spec_machine.specs.Code.{are_whole, checked, code_of, start_in}
use Rattle.spec_machine.specs.Statements.{Statement, Section, Op, Put, Miss, BytesText, Enum, Call, Ahead, Back, Branch, Lost}
use Rattle.program_definition.specs.Linking.{ProgramIsInRange}
use Rattle.spec_machine.specs.Numbering.{code_from, constants_in, entry_of, jumps_from, jumps_of, linked, maps_of, misses_in, named_in, numbered}
use Rattle.spec_machine.specs.Writing.{section}
use Rattle.program_ir.specs.Statements.{statements_in}
use Rattle.program_compiler.specs.declared.error.CompileError.{CompileError}
use Rattle.program_compiler.specs.declared.error.CompileError.TheVariants as CompileErrors
use Rattle.program_compiler.specs.Walking.{AreSectionStatements, SectionStatements, Walks, start_at}
use Rattle.program_compiler.specs.Compiling.{Compiles}
use Rattle.program_compiler.specs.Parts.{Assembles}
use Rattle.program_compiler.proofs.Assembled.{different}

module _ (s t : Section → ℕ) (same : (x : Section) → s x ≡ t x) where
  linked_same : (cs : List (List ℕ)) (ms : List Mismatch) (pc m j : ℕ) (l : Statement) → linked s cs ms pc m j l ≡ linked t cs ms pc m j l
  linked_same cs ms pc m j (Call x) = ap op.Call (same x)
  linked_same cs ms pc m j (Op i) = refl
  linked_same cs ms pc m j (Put bytes) = refl
  linked_same cs ms pc m j (Miss x) = refl
  linked_same cs ms pc m j (BytesText x) = refl
  linked_same cs ms pc m j (Enum ts) = refl
  linked_same cs ms pc m j (Ahead go far) = refl
  linked_same cs ms pc m j (Back far) = refl
  linked_same cs ms pc m j (Branch fars) = refl
  linked_same cs ms pc m j Lost = refl

  code_same : (cs : List (List ℕ)) (ms : List Mismatch) (pc m j : ℕ) (ls : List Statement) → code_from s cs ms pc m j ls ≡ code_from t cs ms pc m j ls
  code_same cs ms pc m j [] = refl
  code_same cs ms pc m j (l ∷ ls) =
      ap (λ i. i ∷ code_from s cs ms (pc + 1) (m + length (maps_of l)) (j + length (jumps_of pc l)) ls) (linked_same cs ms pc m j l)
      ∙ ap (λ is. linked t cs ms pc m j l ∷ is) (code_same cs ms (pc + 1) (m + length (maps_of l)) (j + length (jumps_of pc l)) ls)

  numbered_same : (ls : List Statement) → numbered s ls ≡ numbered t ls
  numbered_same ls = ap (λ code. record {
    code = code;
    constants = constants_in ls;
    maps = map (map (entry_of (misses_in ls))) (named_in maps_of ls);
    jumps = jumps_from 0 ls;
    misses = misses_in ls;
  }) (code_same (constants_in ls) (misses_in ls) 0 0 0 ls)

checked_some : (ls : List Statement) (P Q : Program) → checked ls P ≡ Some Q → (are_whole ls ≡ true) × (P ≡ Q)
checked_some ls P Q h = go (are_whole ls) (is_within_limits P) refl h
  where
    go : (a b : Bool) → are_whole ls ≡ a → ◌≡◌ {A = Option Program} (if a && b then Some P else None) (Some Q) → (are_whole ls ≡ true) × (P ≡ Q)
    go true true e h = (e, let same : P ≡ Q = cc in same)
    go true false e h = absurd (let no : ⊥ = cc in no)
    go false b e h = absurd (let no : ⊥ = cc in no)

checked_is : (ls : List Statement) (P : Program) → are_whole ls ≡ true → is_within_limits P ≡ true → checked ls P ≡ Some P
checked_is ls P whole within = ap (λ b. if b && is_within_limits P then Some P else None) whole ∙ ap (λ b. if b then Some P else None) within

within_of : (P : Program) → first_error P ≡ None → is_within_limits P ≡ true
within_of P h = go (length P.code == 0) (is_within_limits P) _ h
  where
    go : (b w : Bool) (other : Option ProgramError) → (if b then Some NoCode else if not w then Some TooLarge else other) ≡ None → w ≡ true
    go true w other h = absurd (let no : ⊥ = cc in no)
    go false false other h = absurd (let no : ⊥ = cc in no)
    go false true other h = refl

-- a program that was taken is the one that was given, within the limits
judged_ok : (P Q : Program) → Ok Q ≡ judged P → (P ≡ Q) × (is_within_limits P ≡ true)
judged_ok P Q h = go (first_error P) refl h
  where
    go : (o : Option ProgramError) → first_error P ≡ o → ◌≡◌ {A = Result Program ProgramError} (Ok Q) (elim o [ Some e ↦ Err e | None ↦ Ok P ]) → (P ≡ Q) × (is_within_limits P ≡ true)
    go (Some e) is h = absurd (let no : ⊥ = cc in no)
    go None is h = (let same : P ≡ Q = cc in same, within_of P is)

module _ (W R : List Node) (l : SectionStatements) (section_statements : AreSectionStatements W R l) where
  same_program : numbered (start_at l) (statements_in W R l.statements) ≡ numbered (start_in (section W R) 0 l.sections) (statements_in W R l.statements)
  same_program = numbered_same (start_at l) (start_in (section W R) 0 l.sections) section_statements.starts (statements_in W R l.statements)

  pub compiled : (P Q : Program) → are_whole (statements_in W R l.statements) ≡ true → P ≡ numbered (start_at l) (statements_in W R l.statements) → Ok Q ≡ judged P → code_of W R ≡ Some Q
  compiled P Q whole is taken =
      let ok = judged_ok P Q taken in
      let same = sym ok.0 ∙ is ∙ same_program in
      section_statements.code ∙ ap (checked (statements_in W R l.statements)) (sym same) ∙ checked_is (statements_in W R l.statements) Q whole (ap is_within_limits (sym ok.0) ∙ ok.1)

  pub none_compiled : ProgramIsInRange W R → (are_whole (statements_in W R l.statements) ≡ true → IsProgram (numbered (start_at l) (statements_in W R l.statements)) → ⊥) → code_of W R ≡ None
  none_compiled in_range nowhere = go (code_of W R) refl
    where
      go : (o : Option Program) → code_of W R ≡ o → code_of W R ≡ None
      go None e = e
      go (Some P) e =
          let there = checked_some (statements_in W R l.statements) (numbered (start_in (section W R) 0 l.sections) (statements_in W R l.statements)) P (sym section_statements.code ∙ e) in
          absurd (nowhere there.0 (subst IsProgram (sym (same_program ∙ there.1)) (in_range P e)))

-- ---- what the calls answered

pub walked : (W R : List Node) (l : SectionStatements) (result : Result SectionStatements CompileError) → result ≡ Ok l → Walks W R result → AreSectionStatements W R l
walked W R l result is h = subst (Walks W R) is h

pub taken_parts : (W R : List Node) (l : SectionStatements) (parts : Parts) (result : Result Parts CompileError) → result ≡ Ok parts → Assembles (statements_in W R l.statements) (numbered (start_at l) (statements_in W R l.statements)) result
    → (are_whole (statements_in W R l.statements) ≡ true) × (program_of parts ≡ numbered (start_at l) (statements_in W R l.statements))
taken_parts W R l parts result is h = subst (Assembles (statements_in W R l.statements) (numbered (start_at l) (statements_in W R l.statements))) is h

err_is_not_ok : (e : ProgramError) (result : Result Program ProgramError) → result ≡ Err e → is_ok result ≡ false
err_is_not_ok e result is = ap is_ok is

pub refused : (e : ProgramError) (result : Result Program ProgramError) → result ≡ Err e → is_ok result ≡ true → ⊥
refused e result is h = different (sym (err_is_not_ok e result is) ∙ h)

pub none_of_parts : (W R : List Node) (l : SectionStatements) → AreSectionStatements W R l → ProgramIsInRange W R → (e : CompileError) (result : Result Parts CompileError) → result ≡ Err e → Assembles (statements_in W R l.statements) (numbered (start_at l) (statements_in W R l.statements)) result → Compiles W R (Err e)
none_of_parts W R l section_statements in_range CompileErrors.ProgramTooLarge result is h = none_compiled W R l section_statements in_range (subst (Assembles (statements_in W R l.statements) (numbered (start_at l) (statements_in W R l.statements))) is h)
none_of_parts W R l section_statements in_range CompileErrors.NoMemory result is h = tt
