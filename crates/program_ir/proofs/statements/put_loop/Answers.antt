-- The first statement of the loop, its body and its last statement.
use Rattle.std.proofs.Common.{◌≡◌, length, rules}
use Rattle.std.proofs.lemmas.Result.{on_ok_weaker}
use Rattle.program_ir.specs.Statements.{go_of, statements_in}
use Rattle.program_ir.proofs.Appended.{loop_on, statements_length}
use Rattle.program_ir.proofs.statements.put_loop.Goals as goal

pub returns : goal.returns
returns c = on_ok_weaker c.put-2.result (λ h W R. loop_on (go_of c.args.go) (statements_in W R c.args.statements.now.items) (statements_in W R c.args.body.items) _ _ _ c.len-len.result (let len : c.len-len.result ≡ length (statements_in W R c.args.body.items) = search (rules, statements_length) in len) (c.in_ok-put.ensures W R) (c.in_ok-put_all.ensures W R) (h W R)) c.put-2.ensures
