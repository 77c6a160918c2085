-- What opens, the fields and what closes.
use Rattle.std.proofs.Common.{◌++◌, ap, sym, ◌∙◌, Some}
use Rattle.std.proofs.lemmas.Result.{on_ok_weaker}
use Rattle.avro_types.specs.Node.{fields_of, node_of}
use Rattle.spec_machine.specs.Skipping.{skip_fields, skip_routine}
use Rattle.program_ir.specs.Statements.{statements_in}
use Rattle.program_ir.proofs.Appended.{two}
use Rattle.program_compiler.proofs.RoutineSteps.{no_record}
use Rattle.program_compiler.proofs.schema_pair.SchemaPair.put_skip_routine.Goals as goal

pub returns-in_default : goal.returns-in_default
returns-in_default c = on_ok_weaker c.put.result (λ h. no_record c.args.self.now.writer.now c.kind.result.now _ (statements_in c.args.self.now.writer.now c.args.self.now.reader.now c.args.statements.now.items) _ c.kind.ensures.kind c.in_default.not-Record (h c.args.self.now.writer.now c.args.self.now.reader.now)) c.put.ensures

pub returns : goal.returns
returns c =
    let W = c.args.self.now.writer.now in
    let R = c.args.self.now.reader.now in
    let old = statements_in W R c.args.statements.now.items in
    let at = c.kind.ensures.kind ∙ ap (λ k. Some (node_of k)) c.in-Record.is in
    let fields = c.in_ok-skip_fields.ensures ∙ ap (λ fs. statements_in W R c.put-2.new.statements.items ++ skip_fields W (fields_of fs)) c.deref.ensures.value in
    on_ok_weaker c.put-4.result (λ h. two old _ _ _ _ (c.in_ok-put.ensures W R) (two (statements_in W R c.put-2.new.statements.items) _ _ _ _ fields (two (statements_in W R c.skip_fields.new.statements.items) _ _ _ _ (c.in_ok-put-2.ensures W R) (h W R))) ∙ ap (λ x. old ++ skip_routine W x) (sym at)) c.put-4.ensures
