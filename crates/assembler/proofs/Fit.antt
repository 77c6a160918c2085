-- Numbers that are below the greatest one that can be read.
use Rattle.std.proofs.Common.{ℕ, ◌^◌, ◌-◌, ◌<◌, List, [], ◌∷◌, ◌++◌, arith}
use Rattle.std.specs.List.{AllByRecursion}
use Rattle.spec_avro.specs.declared.mismatch.Mismatch.{Mismatch}
use Rattle.spec_machine.specs.declared.entry.Entry.{Entry}
use Rattle.spec_machine.specs.declared.entry.Entry.TheVariants as entries
use Rattle.spec_machine.specs.declared.instr.Instr.{Instr}
use Rattle.spec_machine.specs.declared.instr.Instr.TheVariants as op
use Rattle.spec_machine.specs.declared.operation.Shape.{Shape}
use Rattle.spec_machine.specs.declared.operation.Shape.TheVariants as shapes
use Rattle.spec_machine.specs.declared.sizes.Sizes.{Sizes}
use Rattle.spec_machine.specs.Operation.{operand_of, operation_of, shape_of}
use Rattle.spec_machine.specs.Program.{Program}
use Rattle.spec_machine.specs.Range.{EntryIsInRange, InstrIsInRange, IsAddress, IsProgram, MissIsInRange, sizes_of}
use Rattle.avro_bytes.specs.Laws.Plain.{weaker}

abbrev pub IsLow : ℕ → Type 0
IsLow n = n < 2 ^ 32 - 1

abbrev pub EntryFits : Entry → Type 0
EntryFits (entries.Position i) = IsLow i
EntryFits (entries.Miss m) = IsLow m

pub record MissFits (m : Mismatch) : Type 0 where
  pub writer : IsLow m.writer_node
  pub reader : IsLow m.reader_node

abbrev pub OperandFits : Shape → ℕ → Type 0
OperandFits shapes.Nothing n = Unit {0}
OperandFits shapes.Short n = IsLow n
OperandFits shapes.Long n = IsLow n
OperandFits shapes.Address n = IsLow n

abbrev pub InstrFits : Instr → Type 0
InstrFits i = OperandFits (shape_of (operation_of i)) (operand_of i)

pub record Fits (P : Program) : Type 0 where
  pub maps : AllByRecursion (AllByRecursion EntryFits) P.maps
  pub jumps : AllByRecursion (AllByRecursion IsLow) P.jumps
  pub misses : AllByRecursion MissFits P.misses
  pub code : AllByRecursion InstrFits P.code

pub all_split : {A : Type 0} (F : A → Type 0) (xs : List A) (x : A) → AllByRecursion F (xs ++ x ∷ []) → AllByRecursion F xs × F x
all_split F [] x h = (tt, h.0)
all_split F (y ∷ xs) x h = let r = all_split F xs x h.1 in ((h.0, r.0), r.1)

-- how many there may be of what is named
record AreFew (n : Sizes) : Type 0 where
  code : n.code < 2 ^ 32 - 1
  constants : n.constants < 2 ^ 32 - 1
  maps : n.maps < 2 ^ 32 - 1
  jumps : n.jumps < 2 ^ 32 - 1
  misses : n.misses < 2 ^ 32 - 1

entry_fits : (n : Sizes) → AreFew n → (e : Entry) → EntryIsInRange n e → EntryFits e
entry_fits n few (entries.Position i) h = omega (arith, h)
entry_fits n few (entries.Miss m) h = omega (arith, h, few.misses)

instr_fits : (n : Sizes) → AreFew n → (i : Instr) → InstrIsInRange n i → InstrFits i
instr_fits n few (op.BytesText m) h = omega (arith, h, few.misses)
instr_fits n few (op.Fixed size) h = omega (arith, h)
instr_fits n few (op.Enum t) h = omega (arith, h, few.maps)
instr_fits n few (op.SkipFixed size) h = omega (arith, h)
instr_fits n few (op.SkipEnum many) h = omega (arith, h)
instr_fits n few (op.Put c) h = omega (arith, h, few.constants)
instr_fits n few (op.Record k) h = omega (arith, h)
instr_fits n few (op.Slot j) h = omega (arith, h)
instr_fits n few (op.Next a) h = omega (arith, h, few.code)
instr_fits n few (op.SkipNext a) h = omega (arith, h, few.code)
instr_fits n few (op.Branch t) h = omega (arith, h, few.jumps)
instr_fits n few (op.Miss m) h = omega (arith, h, few.misses)
instr_fits n few (op.Call a) h = omega (arith, h, few.code)
instr_fits n few (op.Jump a) h = omega (arith, h, few.code)
instr_fits n few _ h = tt

pub program_fits : (P : Program) → IsProgram P → Fits P
program_fits P h =
    let n = sizes_of P in
    let w = h.within in
    let few : AreFew n = record { code = omega (arith, w.code); constants = omega (arith, w.constants); maps = omega (arith, w.maps.many); jumps = omega (arith, w.jumps.many); misses = omega (arith, w.misses) } in
    record {
      maps = weaker (AllByRecursion (EntryIsInRange n)) (AllByRecursion EntryFits) (λ map g. weaker (EntryIsInRange n) EntryFits (entry_fits n few) map g) P.maps h.entries;
      jumps = weaker (AllByRecursion (IsAddress n)) (AllByRecursion IsLow) (λ table g. weaker (IsAddress n) IsLow (λ a i. omega (arith, i, few.code)) table g) P.jumps h.addresses;
      misses = weaker MissIsInRange MissFits (λ m i. record { writer = omega (arith, i.writer); reader = omega (arith, i.reader) }) P.misses h.misses;
      code = weaker (InstrIsInRange n) InstrFits (instr_fits n few) P.code h.instrs;
    }
