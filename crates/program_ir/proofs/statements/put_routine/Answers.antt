-- What opens, the fields, the defaults and what closes.
use Rattle.std.proofs.lemmas.Result.{on_ok_weaker}
use Rattle.program_ir.specs.Statements.{statements_in}
use Rattle.program_ir.proofs.Appended.{two}
use Rattle.program_ir.proofs.statements.put_routine.Goals as goal

pub returns : goal.returns
returns c = on_ok_weaker c.put-3.result (λ h W R.
    two (statements_in W R c.args.statements.now.items) _ _ _ _ (c.in_ok-put.ensures W R)
    (two (statements_in W R c.put.new.statements.items) _ _ _ _ (c.in_ok-put_all.ensures W R)
    (two (statements_in W R c.put_all.new.statements.items) _ _ _ _ (c.in_ok-put_all-2.ensures W R)
    (two (statements_in W R c.put_all-2.new.statements.items) _ _ _ _ (c.in_ok-put-2.ensures W R) (h W R))))) c.put-3.ensures
