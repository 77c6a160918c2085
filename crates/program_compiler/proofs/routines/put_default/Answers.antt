-- The slot of a default, and its bytes.
use Rattle.std.proofs.lemmas.Result.{on_ok_weaker}
use Rattle.program_ir.specs.Statements.{statements_in}
use Rattle.program_compiler.proofs.RoutineSteps.{some_default}
use Rattle.program_compiler.proofs.routines.put_default.Goals as goal

pub returns : goal.returns
returns c = on_ok_weaker c.put-2.result (λ h W R routes has at. some_default routes c.args.position c.args.field.now (statements_in W R c.args.statements.now.items) R c.args.reader c.args.has_partner c.in-Some.default c.is_blank.result _ _ has c.if-has_partner.false c.in-Some.is c.is_blank.ensures c.if-is_blank.false at (c.in_ok-put.ensures W R) (h W R)) c.put-2.ensures
