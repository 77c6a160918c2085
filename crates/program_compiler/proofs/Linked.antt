-- Code, a statement at a time.
use Rattle.std.proofs.Common.{◌≡◌, ℕ, zero, suc, ◌+◌, ◌<◌, ◌≤◌, drop, get_or, List, [], ◌∷◌, ◌++◌, length, Option, Some, Result, Err, sym, ap, subst, ◌∙◌, append_assoc}
use Rattle.std.specs.Prelude.{MatchOption}
use Rattle.program_compiler.specs.declared.error.CompileError.{CompileError}
use Rattle.program_compiler.specs.declared.error.CompileError.TheVariants.{ProgramTooLarge, NoMemory}
use Rattle.std.specs.List.{AllByRecursion}
use Rattle.spec_avro.specs.Node.{Node}
use Rattle.spec_machine.specs.declared.instr.Instr.{Instr}
use Rattle.spec_machine.specs.Range.{InstrIsInRange, sizes_of}
use Rattle.spec_avro.specs.declared.limits.TheConstants.{MOST_OUTPUT}
use Rattle.spec_avro.specs.declared.mismatch.Mismatch.{Mismatch}
use Rattle.spec_machine.specs.Statements.{Section}
use Rattle.spec_machine.specs.Numbering.{code_from, constants_of, jumps_of, linked, maps_of, named_in}
use Rattle.program_definition.proofs.Numbering.{all_front, all_back}
use Rattle.program_ir.specs.declared.statements.Statement as rust
use Rattle.program_ir.specs.Statements.{statement_of, statements_in}
use Rattle.program_compiler.specs.Parts.{FitNowhere, IsLong, Links, LinksAll, LinksTo}
use Rattle.program_compiler.proofs.Jumps.{statements_left}

module _ (W R : List Node) where
  named_drop : (Q : List ℕ → Type 0) (ls : List rust.Statement) (i : ℕ) → AllByRecursion Q (named_in constants_of (statements_in W R ls)) → AllByRecursion Q (named_in constants_of (statements_in W R (drop i ls)))
  named_drop Q ls zero h = h
  named_drop Q [] (suc i) h = h
  named_drop Q (l ∷ ls) (suc i) h = named_drop Q ls i (all_back Q (constants_of (statement_of W R l)) (named_in constants_of (statements_in W R ls)) h)

  module _ (starts : Section → ℕ) (cs : List (List ℕ)) (ms : List Mismatch) (statements : List rust.Statement) (i : ℕ) (statement : rust.Statement) (lt : i < length statements) (is : statement ≡ get_or statements i statement) where
    -- one statement more
    pub code_on : (m j more others : ℕ) (instr : Instr) (old new whole : List Instr) → instr ≡ linked starts cs ms i m j (statement_of W R statement) → more ≡ m + length (maps_of (statement_of W R statement)) → others ≡ j + length (jumps_of i (statement_of W R statement)) → new ≡ old ++ instr ∷ [] → old ++ code_from starts cs ms i m j (statements_in W R (drop i statements)) ≡ whole
        → new ++ code_from starts cs ms (i + 1) more others (statements_in W R (drop (i + 1) statements)) ≡ whole
    code_on m j more others instr old new whole ei em ej h so_far =
        let rest = statements_in W R (drop (i + 1) statements) in
        ap (λ l. l ++ code_from starts cs ms (i + 1) more others rest) h
        ∙ append_assoc old (instr ∷ []) (code_from starts cs ms (i + 1) more others rest)
        ∙ ap (λ x. old ++ x ∷ code_from starts cs ms (i + 1) more others rest) ei
        ∙ ap (λ x. old ++ linked starts cs ms i m j (statement_of W R statement) ∷ code_from starts cs ms (i + 1) x others rest) em
        ∙ ap (λ x. old ++ linked starts cs ms i m j (statement_of W R statement) ∷ code_from starts cs ms (i + 1) (m + length (maps_of (statement_of W R statement))) x rest) ej
        ∙ ap (λ ls. old ++ code_from starts cs ms i m j ls) (sym (statements_left W R statements i statement lt is))
        ∙ so_far

    -- what fits nowhere with one statement fits nowhere with all
    pub statement_nowhere : (m j : ℕ) (old whole : List Instr) → FitNowhere (constants_of (statement_of W R statement)) (linked starts cs ms i m j (statement_of W R statement) ∷ []) → old ++ code_from starts cs ms i m j (statements_in W R (drop i statements)) ≡ whole → FitNowhere (named_in constants_of (statements_in W R statements)) whole
    statement_nowhere m j old whole nowhere so_far P within h short =
        let left = all_back (InstrIsInRange (sizes_of P)) old (code_from starts cs ms i m j (statements_in W R (drop i statements))) (subst (AllByRecursion (InstrIsInRange (sizes_of P))) (sym so_far) h) in
        let here = subst (λ ls. AllByRecursion (InstrIsInRange (sizes_of P)) (code_from starts cs ms i m j ls)) (statements_left W R statements i statement lt is) left in
        let named = subst (λ ls. AllByRecursion (λ b. length b ≤ MOST_OUTPUT) (named_in constants_of ls)) (statements_left W R statements i statement lt is) (named_drop (λ b. length b ≤ MOST_OUTPUT) statements i short) in
        nowhere P within (here.0, tt) (all_front (λ b. length b ≤ MOST_OUTPUT) (constants_of (statement_of W R statement)) (named_in constants_of (statements_in W R (drop (i + 1) statements))) named)

-- what a statement's error says of all statements
pub none_linked : (W R : List Node) (starts : Section → ℕ) (cs : List (List ℕ)) (ms : List Mismatch) (statements : List rust.Statement) (i : ℕ) (statement : rust.Statement) → i < length statements → statement ≡ get_or statements i statement → (m j : ℕ) (old whole : List Instr) (e : CompileError) → LinksTo (constants_of (statement_of W R statement)) (linked starts cs ms i m j (statement_of W R statement)) (Err e) → old ++ code_from starts cs ms i m j (statements_in W R (drop i statements)) ≡ whole → LinksAll (statements_in W R statements) whole (Err e)
none_linked W R starts cs ms statements i statement lt is m j old whole ProgramTooLarge h so_far = statement_nowhere W R starts cs ms statements i statement lt is m j old whole h so_far
none_linked W R starts cs ms statements i statement lt is m j old whole NoMemory h so_far = tt

pub at_some : {T : Type 0} (o : Option T) (v : T) (P : Type 0) (Q : T → Type 0) → o ≡ Some v → MatchOption o P Q → Q v
at_some o v P Q e h = subst (λ o. MatchOption o P Q) e h

module _ (W R : List Node) (starts : Section → ℕ) (cs : List (List ℕ)) (ms : List Mismatch) (pc m j : ℕ) where
  pub statement_linked : (statement l : rust.Statement) (result : Result Instr CompileError) → statement ≡ l → Links (statement_of W R l) (linked starts cs ms pc m j (statement_of W R l)) result → Links (statement_of W R statement) (linked starts cs ms pc m j (statement_of W R statement)) result
  statement_linked statement l result e h = subst (λ l. Links (statement_of W R l) (linked starts cs ms pc m j (statement_of W R l)) result) (sym e) h

-- a statement whose constant is too long
pub long_statement : (W R : List Node) (statements : List rust.Statement) (i : ℕ) (statement : rust.Statement) → i < length statements → statement ≡ get_or statements i statement → IsLong (constants_of (statement_of W R statement)) → IsLong (named_in constants_of (statements_in W R statements))
long_statement W R statements i statement lt is long short =
    let named = subst (λ ls. AllByRecursion (λ b. length b ≤ MOST_OUTPUT) (named_in constants_of ls)) (statements_left W R statements i statement lt is) (named_drop W R (λ b. length b ≤ MOST_OUTPUT) statements i short) in
    long (all_front (λ b. length b ≤ MOST_OUTPUT) (constants_of (statement_of W R statement)) (named_in constants_of (statements_in W R (drop (i + 1) statements))) named)
