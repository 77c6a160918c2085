-- Instructions with a number, by what they are. This project's own.
use Rattle.std.specs.Prelude.{ℕ}
use Rattle.spec_machine.specs.declared.instr.Instr.{Instr}
use Rattle.spec_machine.specs.declared.instr.Instr.TheVariants as op
use Rattle.program_compiler.specs.declared.linking.Numbered.{Numbered}
use Rattle.program_compiler.specs.declared.linking.Numbered.TheVariants as kinds
use Rattle.program_ir.specs.Statements.{go_of}

abbrev pub instr_with : Numbered → ℕ → Instr
instr_with kinds.Put n = op.Put n
instr_with kinds.Miss n = op.Miss n
instr_with kinds.BytesText n = op.BytesText n
instr_with kinds.Enum n = op.Enum n
instr_with kinds.Call n = op.Call n
instr_with kinds.Branch n = op.Branch n
instr_with (kinds.Go go) n = go_of go n
