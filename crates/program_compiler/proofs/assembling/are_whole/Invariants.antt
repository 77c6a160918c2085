-- The statements left are whole just where all are.
use Rattle.std.proofs.Common.{◌≡◌, drop, List}
use Rattle.spec_avro.specs.Node.{Node}
use Rattle.spec_machine.specs.Code.{are_whole}
use Rattle.program_ir.specs.Statements.{statements_in}
use Rattle.program_compiler.proofs.assembling.are_whole.Given as goal

abbrev pub invariant-loop-statement : goal.invariant-loop-statement
invariant-loop-statement l = (W R : List Node) → are_whole (statements_in W R (drop l.statement-index l.statements)) ≡ are_whole (statements_in W R l.statements)
