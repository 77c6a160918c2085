-- A jump that goes anywhere.
use Rattle.std.proofs.Common.{◌++◌, ap, ◌∙◌}
use Rattle.std.proofs.lemmas.Result.{on_ok_weaker}
use Rattle.program_ir.specs.Statements.{statements_in}
use Rattle.program_ir.proofs.Branched.{jump_is}
use Rattle.program_ir.proofs.statements.put_jump.Goals as goal

pub returns : goal.returns
returns c = on_ok_weaker c.put.result (λ h W R. h W R ∙ ap (λ l. statements_in W R c.args.statements.now.items ++ l) (jump_is c.args.far c.if-far-eq0.false)) c.put.ensures
