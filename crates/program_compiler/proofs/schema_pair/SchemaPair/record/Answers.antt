-- A call, or a miss and a skip, by whether a default is missing.
use Rattle.std.proofs.Common.{◌≡◌, ◌++◌, [], ◌∷◌, true, false, ap, sym, ◌∙◌, is_some, not}
use Rattle.std.proofs.lemmas.Result.{on_ok_weaker}
use Rattle.std.specs.Prelude.{slice_get}
use Rattle.spec_avro.specs.Resolution.{field_lists}
use Rattle.resolver.specs.Steps.{both_lists}
use Rattle.program_ir.specs.Statements.{statements_in, record_statement}
use Rattle.program_ir.proofs.Appended.{two}
use Rattle.program_compiler.proofs.WriteSteps.{record_calls, record_lacks, record_lost, some_too}
use Rattle.program_compiler.proofs.schema_pair.SchemaPair.record.Goals as goal

pub returns-then-is_none-clause-statements : goal.returns-then-is_none-clause-statements
returns-then-is_none-clause-statements c =
    let W = c.args.self.now.writer.now in
    let R = c.args.self.now.reader.now in
    let lists = field_lists (slice_get W c.args.wn) (slice_get R c.args.rn) in
    let none : is_some lists ≡ false = ap is_some (sym c.field_lists.ensures.lists) ∙ some_too both_lists c.field_lists.result ∙ c.is_none.ensures ∙ ap not c.if-is_none.true in
    on_ok_weaker c.put.result (λ h. record_lost W R c.args.wn c.args.rn (statements_in W R c.args.statements.now.items) _ lists none (h W R)) c.put.ensures

pub returns-in-Some-clause-statements : goal.returns-in-Some-clause-statements
returns-in-Some-clause-statements c =
    let W = c.args.self.now.writer.now in
    let R = c.args.self.now.reader.now in
    let old = statements_in W R c.args.statements.now.items in
    let lists = field_lists (slice_get W c.args.wn) (slice_get R c.args.rn) in
    on_ok_weaker c.skip.result (λ h. record_lacks W R c.args.wn c.args.rn old _ lists c.in-Some.field-0 (sym c.in_ok-lacking.ensures.node ∙ c.in-Some.is) (two old _ _ _ _ (c.in_ok-put_record.ensures W R ∙ ap (λ o. old ++ record_statement c.args.wn c.args.rn o ∷ []) c.in-Some.is) h)) c.skip.ensures

pub returns-in-None-clause-statements : goal.returns-in-None-clause-statements
returns-in-None-clause-statements c =
    let W = c.args.self.now.writer.now in
    let R = c.args.self.now.reader.now in
    let old = statements_in W R c.args.statements.now.items in
    let lists = field_lists (slice_get W c.args.wn) (slice_get R c.args.rn) in
    let some : is_some lists ≡ true = ap is_some (sym c.field_lists.ensures.lists) ∙ some_too both_lists c.field_lists.result ∙ c.is_none.ensures ∙ ap not c.if-is_none.false in
    record_calls W R c.args.wn c.args.rn old _ lists some (sym c.in_ok-lacking.ensures.node ∙ c.in-None.is) (c.in_ok-put_record.ensures W R ∙ ap (λ o. old ++ record_statement c.args.wn c.args.rn o ∷ []) c.in-None.is)
