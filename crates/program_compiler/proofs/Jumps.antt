-- Jump tables and maps, a statement at a time.
use Rattle.std.proofs.Common.{◌≡◌, ℕ, zero, suc, ◌+◌, ◌^◌, ◌<◌, ◌≤◌, drop, get_or, List, [], ◌∷◌, ◌++◌, length, map, refl, sym, ap, subst, ◌∙◌, arith, append_assoc}
use Rattle.std.specs.Prelude.{MatchOption, Option, None}
use Rattle.std.specs.List.{AllByRecursion}
use Rattle.std.proofs.Math.Seq.{drop-cons}
use Rattle.std.proofs.lemmas.List.{map-append}
use Rattle.spec_avro.specs.Node.{Node}
use Rattle.spec_machine.specs.declared.entry.Entry.{Entry}
use Rattle.spec_avro.specs.declared.mismatch.Mismatch.{Mismatch}
use Rattle.spec_machine.specs.Numbering.{entry_of, jumps_from, jumps_of, maps_of, named_in}
use Rattle.program_definition.proofs.Numbering.{all_front, all_back}
use Rattle.std.specs.Global.{Vec}
use Rattle.program_ir.specs.declared.statements.Statement as rust
use Rattle.program_ir.specs.declared.statements.Statement.TheVariants as variants
use Rattle.program_ir.specs.Statements.{statement_of, statements_in}
use Rattle.program_compiler.specs.Parts.{AreWide, IsWide}

module _ (W R : List Node) (statements : List rust.Statement) (i : ℕ) (statement : rust.Statement) (lt : i < length statements) (is : statement ≡ get_or statements i statement) where
  -- the statements from one on are that one and those after it
  pub statements_left : statements_in W R (drop i statements) ≡ statement_of W R statement ∷ statements_in W R (drop (i + 1) statements)
  statements_left =
      let e : suc i ≡ i + 1 = omega arith in
      ap (statements_in W R) (drop-cons statements i statement lt) ∙ ap (λ l. statement_of W R l ∷ statements_in W R (drop (suc i) statements)) (sym is) ∙ ap (λ k. statement_of W R statement ∷ statements_in W R (drop k statements)) e

  pub jumps_on : (old new whole : List (List ℕ)) → new ≡ old ++ jumps_of i (statement_of W R statement) → old ++ jumps_from i (statements_in W R (drop i statements)) ≡ whole → new ++ jumps_from (i + 1) (statements_in W R (drop (i + 1) statements)) ≡ whole
  jumps_on old new whole h so_far =
      ap (λ l. l ++ jumps_from (i + 1) (statements_in W R (drop (i + 1) statements))) h
      ∙ append_assoc old (jumps_of i (statement_of W R statement)) (jumps_from (i + 1) (statements_in W R (drop (i + 1) statements)))
      ∙ ap (λ ls. old ++ jumps_from i ls) (sym statements_left)
      ∙ so_far

  pub jumps_wide : (old whole : List (List ℕ)) → AreWide (jumps_of i (statement_of W R statement)) → old ++ jumps_from i (statements_in W R (drop i statements)) ≡ whole → AreWide whole
  jumps_wide old whole wide so_far most le all =
      let left = all_back (AllByRecursion (λ n. n < most)) old (jumps_from i (statements_in W R (drop i statements))) (subst (AllByRecursion (AllByRecursion (λ n. n < most))) (sym so_far) all) in
      let here = subst (λ ls. AllByRecursion (AllByRecursion (λ n. n < most)) (jumps_from i ls)) statements_left left in
      wide most le (all_front (AllByRecursion (λ n. n < most)) (jumps_of i (statement_of W R statement)) (jumps_from (i + 1) (statements_in W R (drop (i + 1) statements))) here)

  pub maps_on : (ms : List Mismatch) (old new whole : List (List Entry)) → new ≡ old ++ map (map (entry_of ms)) (maps_of (statement_of W R statement)) → old ++ map (map (entry_of ms)) (named_in maps_of (statements_in W R (drop i statements))) ≡ whole → new ++ map (map (entry_of ms)) (named_in maps_of (statements_in W R (drop (i + 1) statements))) ≡ whole
  maps_on ms old new whole h so_far =
      let rest = named_in maps_of (statements_in W R (drop (i + 1) statements)) in
      ap (λ l. l ++ map (map (entry_of ms)) rest) h
      ∙ append_assoc old (map (map (entry_of ms)) (maps_of (statement_of W R statement))) (map (map (entry_of ms)) rest)
      ∙ ap (λ l. old ++ l) (sym (map-append (map (entry_of ms)) (maps_of (statement_of W R statement)) rest))
      ∙ ap (λ ls. old ++ map (map (entry_of ms)) (named_in maps_of ls)) (sym statements_left)
      ∙ so_far

pub get_same : (xs : List ℕ) (i d e : ℕ) → i < length xs → get_or xs i d ≡ get_or xs i e
get_same [] i d e lt = absurd (omega (arith, lt))
get_same (x ∷ xs) zero d e lt = refl
get_same (x ∷ xs) (suc i) d e lt = get_same xs i d e (omega (arith, lt))

-- one address more
pub address_on : (pc : ℕ) (fars : List ℕ) (i far a : ℕ) (old new whole : List ℕ) → i < length fars → far ≡ get_or fars i far → a ≡ pc + far → new ≡ old ++ a ∷ [] → old ++ map (λ f. pc + f) (drop i fars) ≡ whole → new ++ map (λ f. pc + f) (drop (i + 1) fars) ≡ whole
address_on pc fars i far a old new whole lt is ea h so_far =
    let e : i + 1 ≡ suc i = omega arith in
    ap (λ k. new ++ map (λ f. pc + f) (drop k fars)) e
    ∙ ap (λ (l : List ℕ). l ++ map (λ f. pc + f) (drop (suc i) fars)) (h ∙ ap (λ (x : ℕ). old ++ x ∷ []) (ea ∙ ap (λ f. pc + f) is))
    ∙ append_assoc old ((pc + get_or fars i far) ∷ []) (map (λ f. pc + f) (drop (suc i) fars))
    ∙ sym (ap (λ l. old ++ map (λ f. pc + f) l) (drop-cons fars i far lt))
    ∙ so_far

pub address_wide : (pc : ℕ) (fars : List ℕ) (i far : ℕ) (old whole : List ℕ) → i < length fars → far ≡ get_or fars i far → 2 ^ 32 ≤ pc + far → old ++ map (λ f. pc + f) (drop i fars) ≡ whole → IsWide whole
address_wide pc fars i far old whole lt is wide so_far most le all =
    let left = all_back (λ n. n < most) old (map (λ f. pc + f) (drop i fars)) (subst (AllByRecursion (λ n. n < most)) (sym so_far) all) in
    let here = subst (λ l. AllByRecursion (λ n. n < most) (map (λ f. pc + f) l)) (drop-cons fars i far lt) left in
    let low : pc + far < most = subst (λ f. pc + f < most) (sym is) here.0 in
    omega (arith, wide, le, low)

-- a branch's addresses
pub branch_wide : (pc : ℕ) (W R : List Node) (statement : rust.Statement) (fars : Vec ℕ) → statement ≡ variants.Branch fars → IsWide (map (λ f. pc + f) fars.items) → AreWide (jumps_of pc (statement_of W R statement))
branch_wide pc W R statement fars e wide = subst (λ l. AreWide (jumps_of pc (statement_of W R l))) (sym e) (λ most le all. wide most le all.0)

pub branch_on : (pc : ℕ) (W R : List Node) (statement : rust.Statement) (fars : Vec ℕ) (old new : List (List ℕ)) (addresses : List ℕ) → statement ≡ variants.Branch fars → addresses ≡ map (λ f. pc + f) fars.items → new ≡ old ++ addresses ∷ [] → new ≡ old ++ jumps_of pc (statement_of W R statement)
branch_on pc W R statement fars old new addresses e ea h = h ∙ ap (λ a. old ++ a ∷ []) ea ∙ ap (λ l. old ++ jumps_of pc (statement_of W R l)) (sym e)

pub at_none : {T : Type 0} (o : Option T) (P : Type 0) (Q : T → Type 0) → o ≡ None → MatchOption o P Q → P
at_none o P Q e h = subst (λ o. MatchOption o P Q) e h
