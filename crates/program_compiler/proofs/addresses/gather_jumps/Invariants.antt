-- The tables so far, before those of the statements that are left, are all of them.
use Rattle.std.proofs.Common.{◌≡◌, ◌++◌, drop, List}
use Rattle.spec_avro.specs.Node.{Node}
use Rattle.spec_machine.specs.Numbering.{jumps_from}
use Rattle.program_ir.specs.Statements.{statements_in}
use Rattle.program_compiler.proofs.addresses.gather_jumps.Given as goal

abbrev pub invariant-loop-pc : goal.invariant-loop-pc
invariant-loop-pc l = (W R : List Node) → l.jumps ++ jumps_from l.pc (statements_in W R (drop l.pc l.statements)) ≡ jumps_from 0 (statements_in W R l.statements)
