-- Numbers and addresses: constants and misses are numbered as the code first names them, and shared where equal. This
-- project's own.
use Rattle.std.specs.Prelude.{ℕ, suc, ◌+◌, ◌-◌, ◌==◌, Bool, true, false, ◌&&◌, List, [], ◌∷◌, ◌++◌, length, map, if◌then◌else◌}
use Rattle.std.specs.Str.{bytes_eq}
use Rattle.spec_avro.specs.declared.mismatch.Mismatch.{Mismatch}
use Rattle.spec_avro.specs.MismatchKind.{code_of as code_of_kind}
use Rattle.spec_machine.specs.declared.entry.Entry.{Entry}
use Rattle.spec_machine.specs.declared.entry.Entry.TheVariants as entries
use Rattle.spec_machine.specs.declared.instr.Instr.{Instr}
use Rattle.spec_machine.specs.declared.instr.Instr.TheVariants as op
use Rattle.spec_machine.specs.Program.{Program}
use Rattle.spec_machine.specs.Statements.{Statement, Op, Put, Miss, BytesText, Enum, Call, Ahead, Back, Branch, Lost, Target, To, Lacks, Section, Main, Write, Skip}

-- ---- what statements name

abbrev pub named_in : {A : Type 0} → (Statement → List A) → List Statement → List A
named_in f [] = []
named_in f (statement ∷ statements) = f statement ++ named_in f statements

abbrev pub calls_of : Statement → List Section
calls_of (Call s) = s ∷ []
calls_of _ = []

abbrev pub constants_of : Statement → List (List ℕ)
constants_of (Put bytes) = bytes ∷ []
constants_of _ = []

abbrev pub lacked : List Target → List Mismatch
lacked [] = []
lacked (To n ∷ targets) = lacked targets
lacked (Lacks m ∷ targets) = m ∷ lacked targets

abbrev pub misses_of : Statement → List Mismatch
misses_of (Miss m) = m ∷ []
misses_of (BytesText m) = m ∷ []
misses_of (Enum targets) = lacked targets
misses_of _ = []

abbrev pub maps_of : Statement → List (List Target)
maps_of (Enum targets) = targets ∷ []
maps_of _ = []

-- at this address
abbrev pub jumps_of : ℕ → Statement → List (List ℕ)
jumps_of pc (Branch fars) = map (λ far. pc + far) fars ∷ []
jumps_of pc _ = []

abbrev pub jumps_from : ℕ → List Statement → List (List ℕ)
jumps_from pc [] = []
jumps_from pc (statement ∷ statements) = jumps_of pc statement ++ jumps_from (pc + 1) statements

-- ---- things in the order in which they came, each once

module _ {A : Type 0} (same : A → A → Bool) where
  abbrev pub has : A → List A → Bool
  has a [] = false
  has a (x ∷ xs) = if same a x then true else has a xs

  abbrev pub number : A → List A → ℕ
  number a [] = 0
  number a (x ∷ xs) = if same a x then 0 else suc (number a xs)

  -- those that are not there yet, after the others
  abbrev pub adding : List A → List A → List A
  adding xs [] = xs
  adding xs (a ∷ more) = if has a xs then adding xs more else adding (xs ++ a ∷ []) more

abbrev pub same_section : Section → Section → Bool
same_section Main Main = true
same_section (Write w r) (Write v s) = w == v && r == s
same_section (Skip w) (Skip v) = w == v
same_section _ _ = false

abbrev pub same_miss : Mismatch → Mismatch → Bool
same_miss a b =
    code_of_kind a.kind == code_of_kind b.kind && a.writer_node == b.writer_node && a.reader_node == b.reader_node

-- ---- statements become instructions

abbrev pub entry_of : List Mismatch → Target → Entry
entry_of misses (To n) = entries.Position n
entry_of misses (Lacks m) = entries.Miss (number same_miss m misses)

module _ (starts : Section → ℕ) (constants : List (List ℕ)) (misses : List Mismatch) where
  -- at this address, after the given counts of maps and jump tables
  abbrev pub linked : ℕ → ℕ → ℕ → Statement → Instr
  linked pc maps jumps (Op i) = i
  linked pc maps jumps (Put bytes) = op.Put (number bytes_eq bytes constants)
  linked pc maps jumps (Miss m) = op.Miss (number same_miss m misses)
  linked pc maps jumps (BytesText m) = op.BytesText (number same_miss m misses)
  linked pc maps jumps (Enum targets) = op.Enum maps
  linked pc maps jumps (Call s) = op.Call (starts s)
  linked pc maps jumps (Ahead go far) = go (pc + far)
  linked pc maps jumps (Back far) = op.Jump (pc - far)
  linked pc maps jumps (Branch fars) = op.Branch jumps
  linked pc maps jumps Lost = op.Halt

  abbrev pub code_from : ℕ → ℕ → ℕ → List Statement → List Instr
  code_from pc maps jumps [] = []
  code_from pc maps jumps (statement ∷ statements) =
      linked pc maps jumps statement ∷ code_from (pc + 1) (maps + length (maps_of statement))
      (jumps + length (jumps_of pc statement)) statements

abbrev pub constants_in : List Statement → List (List ℕ)
constants_in statements = adding bytes_eq [] (named_in constants_of statements)

abbrev pub misses_in : List Statement → List Mismatch
misses_in statements = adding same_miss [] (named_in misses_of statements)

abbrev pub numbered : (Section → ℕ) → List Statement → Program
numbered starts statements = record {
  code = code_from starts (constants_in statements) (misses_in statements) 0 0 0 statements;
  constants = constants_in statements;
  maps = map (map (entry_of (misses_in statements))) (named_in maps_of statements);
  jumps = jumps_from 0 statements;
  misses = misses_in statements;
}
