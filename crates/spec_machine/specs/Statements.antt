-- Statements of a program's code: instructions whose numbers and addresses the whole program decides. All of this is
-- this project's own.
use Rattle.std.specs.Prelude.{ℕ, ◌+◌, List, [], ◌∷◌, ◌++◌, length}
use Rattle.spec_avro.specs.declared.mismatch.Mismatch.{Mismatch}
use Rattle.spec_avro.specs.declared.mismatch.MismatchKind.{MismatchKind}
use Rattle.spec_machine.specs.declared.instr.Instr.{Instr}
use Rattle.spec_machine.specs.declared.instr.Instr.TheVariants as op

-- a part of the code
pub data Section : Type 0 where
  -- X(0, 0), HALT
  Main : Section
  -- the routine of a writer's record w and a reader's record r
  Write : (w r : ℕ) → Section
  -- the routine that skips a writer's record w
  Skip : (w : ℕ) → Section

-- what a symbol becomes
pub data Target : Type 0 where
  To : (position : ℕ) → Target
  Lacks : (m : Mismatch) → Target

pub data Statement : Type 0 where
  -- an instruction whose operand is known
  Op : (i : Instr) → Statement
  -- PUT, MISS, BYTESTEXT, ENUM and CALL, with what they name
  Put : (bytes : List ℕ) → Statement
  Miss : (m : Mismatch) → Statement
  BytesText : (m : Mismatch) → Statement
  Enum : (targets : List Target) → Statement
  Call : (s : Section) → Statement
  -- NEXT, SNEXT or JUMP to an address so far ahead
  Ahead : (go : ℕ → Instr) → (far : ℕ) → Statement
  -- JUMP so far back
  Back : (far : ℕ) → Statement
  -- BRANCH to addresses so far ahead
  Branch : (fars : List ℕ) → Statement
  -- no code: a node that is none of the schema's, or whose arrays, maps and unions hold each other without end, or
  -- nodes that do not go together
  Lost : Statement

abbrev pub miss : MismatchKind → ℕ → ℕ → Mismatch
miss kind w r = record { kind = kind; writer_node = w; reader_node = r }

-- L: NEXT e; body; JUMP L; e:
abbrev pub looped : (ℕ → Instr) → List Statement → List Statement
looped next body = Ahead next (length body + 2) ∷ (body ++ Back (length body + 1) ∷ [])

-- codes, after each but the last a JUMP to where the last ends
abbrev pub one_of : List (List Statement) → List Statement
one_of [] = []
one_of (code ∷ []) = code
one_of (code ∷ other ∷ codes) = code ++ Ahead op.Jump (length (one_of (other ∷ codes)) + 1) ∷ one_of (other ∷ codes)

-- where each begins
abbrev pub begins : ℕ → List (List Statement) → List ℕ
begins far [] = []
begins far (code ∷ codes) = far ∷ begins (far + length code + 1) codes

-- BRANCH t; the code of each branch
abbrev pub branched : List (List Statement) → List Statement
branched codes = Branch (begins 1 codes) ∷ one_of codes
