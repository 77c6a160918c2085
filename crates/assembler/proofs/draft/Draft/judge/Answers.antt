use Rattle.std.proofs.Common.{sym, Ok}
use Rattle.isa.specs.Program.{program_of}
use Rattle.assembler.proofs.Places.{fits, told, told_fault}
use Rattle.assembler.proofs.draft.Draft.judge.Goals as goal

pub fault_of-requires-clause-fits : goal.fault_of-requires-clause-fits
fault_of-requires-clause-fits c =
    fits c.args.self (program_of c.self.inside.parts) c.self.inside.room c.first_lines-lines.result.code c.in-Err.error (sym c.self.view_is) c.self.invariant c.first_lines-lines.ensures.code c.in-Err.ensures.judged

pub returns-in-Ok : goal.returns-in-Ok
returns-in-Ok c = told c.args.self (program_of c.self.inside.parts) (Ok c.in-Ok.program) (sym c.self.view_is) c.in-Ok.ensures.judged

pub returns-in-Err : goal.returns-in-Err
returns-in-Err c = told_fault c.args.self (program_of c.self.inside.parts) c.in-Err.error c.fault_of.result (sym c.self.view_is) c.in-Err.ensures.judged (c.fault_of.ensures c.args.self c.first_lines-lines.ensures)
