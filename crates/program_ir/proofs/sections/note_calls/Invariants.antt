-- The sections so far, with those that the statements left call, are all of them.
use Rattle.std.proofs.Common.{◌≡◌, List, drop}
use Rattle.spec_avro.specs.Node.{Node}
use Rattle.spec_machine.specs.Numbering.{adding, calls_of, named_in, same_section}
use Rattle.program_ir.specs.Statements.{statements_in}
use Rattle.program_ir.proofs.sections.note_calls.Given as goal

abbrev pub invariant-loop-statement : goal.invariant-loop-statement
invariant-loop-statement l = (W R : List Node) → adding same_section l.sections (named_in calls_of (statements_in W R (drop l.statement-index l.statements))) ≡ adding same_section l.fn.sections (named_in calls_of (statements_in W R l.statements))
