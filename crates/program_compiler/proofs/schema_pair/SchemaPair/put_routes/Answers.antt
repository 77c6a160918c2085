-- What opens, the fields, the defaults and what closes.
use Rattle.std.proofs.Common.{◌++◌, length, ap, ◌∙◌}
use Rattle.std.proofs.lemmas.Result.{on_ok_weaker}
use Rattle.spec_machine.specs.Writing.{fields_code}
use Rattle.program_ir.specs.Statements.{statements_in, routine_statements}
use Rattle.program_compiler.proofs.Steps.{body_is}
use Rattle.program_compiler.proofs.schema_pair.SchemaPair.put_routes.Goals as goal

pub returns-clause-statements : goal.returns-clause-statements
returns-clause-statements c =
    let W = c.args.self.now.writer.now in
    let R = c.args.self.now.reader.now in
    let old = statements_in W R c.args.statements.now.items in
    let fields = body_is W R c.new-fields.result.items _ _ c.new-fields.ensures.items c.in_ok-put_fields.ensures.statements in
    let defaults = body_is W R c.new-defaults.result.items _ _ c.new-defaults.ensures.items (c.in_ok-put_defaults.ensures W) in
    on_ok_weaker c.put_routine.result (λ h. h W R
    ∙ ap (λ l. old ++ routine_statements (length c.args.rs.now) l (statements_in W R c.put_defaults.new.statements.items)) fields
    ∙ ap (λ l. old ++ routine_statements (length c.args.rs.now) (fields_code W R c.args.routes.now) l) defaults) c.put_routine.ensures
