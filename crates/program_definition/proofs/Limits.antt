-- There is no program only where a limit is passed.
use Rattle.std.proofs.Common.{◌≡◌, ◌<◌, Bool, true, false, cond, ◌&&◌, List, [], ◌∷◌, length, Option, Some, None, refl, subst, arith}
use Rattle.spec_avro.specs.Node.{Node}
use Rattle.spec_avro.specs.WellFormed.{IsWellFormed}
use Rattle.spec_machine.specs.declared.limits.TheConstants.{MOST_INSTRS}
use Rattle.spec_machine.specs.Judging.{is_within_limits}
use Rattle.spec_machine.specs.Program.{Program}
use Rattle.spec_machine.specs.Code.{are_whole, assembled, code_of, statements_of, reached, start_in}
use Rattle.program_definition.specs.Limits.{NoneByLimitsAlone, whole_program}
use Rattle.spec_machine.specs.Statements.{Section, Main, Statement}
use Rattle.spec_machine.specs.Writing.{section}
use Rattle.program_definition.proofs.Ranges.{code_length, within_limits}
use Rattle.program_definition.proofs.Rounds.{same_reached, too_many}
use Rattle.program_definition.proofs.Whole.{no_statement_is_lost, sections_long}

none_checked : (ls : List Statement) (P : Program) → are_whole ls ≡ true → cond (are_whole ls && is_within_limits P) (Some P) None ≡ None → is_within_limits P ≡ false
none_checked ls P whole h = go (are_whole ls) (is_within_limits P) whole h
  where
    go : (a b : Bool) → a ≡ true → cond (a && b) (Some P) None ≡ None → b ≡ false
    go true true e h = absurd cc
    go true false e h = refl
    go false b e h = absurd cc

pub passes_limit : (P : Program) → MOST_INSTRS < length P.code → is_within_limits P ≡ false
passes_limit P h = go (is_within_limits P) refl
  where
    go : (b : Bool) → is_within_limits P ≡ b → b ≡ false
    go true e = let short = (within_limits P e).code in absurd (omega (arith, h, short))
    go false e = refl

pub none_by_limits_alone : (W R : List Node) → IsWellFormed W → IsWellFormed R → NoneByLimitsAlone W R
unfolding code_of
none_by_limits_alone W R formed theirs none n ss h = go (reached (section W R) MOST_INSTRS 0 (Main ∷ [])) refl none
  where
    go : (o : Option (List Section)) → reached (section W R) MOST_INSTRS 0 (Main ∷ []) ≡ o → assembled (section W R) o ≡ None → is_within_limits (whole_program W R ss) ≡ false
    go None e none =
        let many = too_many (section W R) MOST_INSTRS n 0 (Main ∷ []) ss e h in
        let long = sections_long W R ss in
        let P = whole_program W R ss in
        passes_limit P (omega (arith, many, long, code_length (start_in (section W R) 0 ss) P.constants P.misses 0 0 0 (statements_of (section W R) ss)))
    go (Some qs) e none =
        let same = same_reached (section W R) MOST_INSTRS n 0 (Main ∷ []) qs ss e h in
        subst (λ qs. is_within_limits (whole_program W R qs) ≡ false) same
        (none_checked (statements_of (section W R) qs) (whole_program W R qs) (no_statement_is_lost W R formed theirs MOST_INSTRS qs e) none)
