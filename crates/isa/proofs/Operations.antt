-- Operations, their codes and their instructions go with one another.
use Rattle.std.proofs.Common.{◌≡◌, ℕ, zero, suc, ◌+◌, List, [], ◌∷◌, Some, refl, sym, ap, arith, slice_get, add-one}
use Rattle.spec_machine.specs.declared.instr.Instr.{Instr}
use Rattle.spec_machine.specs.declared.instr.Instr.TheVariants as instrs
use Rattle.spec_machine.specs.declared.operation.Operation.{Operation}
use Rattle.spec_machine.specs.declared.operation.Operation.TheVariants as op
use Rattle.spec_machine.specs.declared.operation.TheConstants.{OPERATIONS}
use Rattle.spec_machine.specs.Operation.{at_code, code_of, instr_of, operand_of, operation_of}

pub at_place : (code place : ℕ) → code ≡ place + 1 → at_code code ≡ slice_get OPERATIONS place
at_place code place e = rw (e, add-one place) refl

pub made : (o : Operation) (n : ℕ) → operation_of (instr_of o n) ≡ o
made op.Bool n = refl
made _ n = refl

pub same : (i : Instr) → instr_of (operation_of i) (operand_of i) ≡ i
same instrs.Bool = refl
same _ = refl

pub found : (o : Operation) → at_code (code_of o) ≡ Some o
found op.Bool = refl
found _ = refl

-- each has its place in the table for a code, counted from a number
abbrev AreNumbered : ℕ → List Operation → Type 0
AreNumbered k [] = Unit {0}
AreNumbered k (o ∷ os) = (code_of o ≡ k) × AreNumbered (suc k) os

numbered : AreNumbered 1 OPERATIONS
numbered = (refl, (refl, (refl, (refl, (refl, (refl, (refl, (refl, (refl, (refl, (refl, (refl, (refl, (refl, (refl, (refl, (refl, (refl, (refl, (refl, (refl, (refl, (refl, (refl, (refl, (refl, (refl, (refl, (refl, (refl, (refl, tt)))))))))))))))))))))))))))))))

of_number : (k place : ℕ) (os : List Operation) (o : Operation) → AreNumbered k os → slice_get os place ≡ Some o → code_of o ≡ place + k
of_number k place [] o h e = absurd cc
of_number k zero (p ∷ os) o h e = let same : p ≡ o = cc in omega (arith, ap code_of (sym same), h.0)
of_number k (suc place) (p ∷ os) o h e = omega (arith, of_number (suc k) place os o h.1 e)

pub coded : (code : ℕ) (o : Operation) → at_code code ≡ Some o → code_of o ≡ code
coded zero o e = absurd cc
coded (suc place) o e = omega (arith, of_number 1 place OPERATIONS o numbered e)
