use Rattle.std.proofs.Common.{◌∙◌, ap, sym}
use Rattle.spec_machine.specs.Operation.{at_code}
use Rattle.isa.proofs.Operations.{coded, found, made, same}
use Rattle.isa.proofs.laws.operations_go_with_instructions_and_codes.Goals as goal

pub returns-clause-instrs : goal.returns-clause-instrs
returns-clause-instrs c = same

pub returns-clause-operations : goal.returns-clause-operations
returns-clause-operations c = made

pub returns-clause-codes : goal.returns-clause-codes
returns-clause-codes c = λ o code. (coded code o, λ e. ap at_code (sym e) ∙ found o)
