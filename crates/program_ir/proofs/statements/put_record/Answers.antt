-- The miss, or the call.
use Rattle.std.proofs.Common.{◌++◌, ◌∷◌, [], ap, sym, ◌∙◌}
use Rattle.std.proofs.lemmas.Result.{on_ok_weaker}
use Rattle.spec_machine.specs.Statements.{Miss}
use Rattle.program_ir.specs.Statements.{statements_in, record_statement}
use Rattle.program_ir.proofs.statements.put_record.Goals as goal

pub returns-in-Some : goal.returns-in-Some
returns-in-Some c = on_ok_weaker c.put.result (λ h W R.
    let old = statements_in W R c.args.statements.now.items in
    h W R ∙ ap (λ m. old ++ Miss m ∷ []) c.miss.ensures ∙ ap (λ lacking. old ++ record_statement c.args.writer_node c.args.reader_node lacking ∷ []) (sym c.in-Some.is)) c.put.ensures

pub returns-in-None : goal.returns-in-None
returns-in-None c = on_ok_weaker c.put-in-None.result (λ h W R.
    h W R ∙ ap (λ lacking. statements_in W R c.args.statements.now.items ++ record_statement c.args.writer_node c.args.reader_node lacking ∷ []) (sym c.in-None.is)) c.put-in-None.ensures
