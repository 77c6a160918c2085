-- The routine of two lists of fields, and where they go.
use Rattle.std.proofs.Common.{◌++◌, ap, sym, subst, ◌∙◌, refl, List, length, option_map, arith}
use Rattle.std.specs.Prelude.{slice_get}
use Rattle.std.proofs.lemmas.List.{length-map}
use Rattle.std.proofs.lemmas.Result.{on_ok_weaker}
use Rattle.spec_avro.specs.declared.limits.TheConstants.{MOST_FIELDS}
use Rattle.avro_types.specs.Node.{field_of, fields_of}
use Rattle.spec_avro.specs.declared.place.Route.{Route}
use Rattle.resolver.specs.Partners.{AreRoutes}
use Rattle.spec_avro.specs.Partners.{routes}
use Rattle.spec_machine.specs.Writing.{defaults_code, fields_code, write_routine}
use Rattle.spec_avro.specs.Resolution.{field_lists}
use Rattle.resolver.specs.Steps.{both_lists}
use Rattle.program_ir.specs.Statements.{statements_in, routine_statements}
use Rattle.program_compiler.proofs.RoutineSteps.{few_fields, routes_within, same_fields}
use Rattle.program_compiler.proofs.WriteSteps.{parts_none, parts_some}
use Rattle.program_compiler.proofs.schema_pair.SchemaPair.put_routine.Goals as goal

pub returns-in_default-clause-statements : goal.returns-in_default-clause-statements
returns-in_default-clause-statements c = on_ok_weaker c.put.result (λ h. parts_none _ _ _ _ (sym c.field_lists.ensures.lists ∙ ap (option_map both_lists) c.in_default.is) (h c.args.self.now.writer.now c.args.self.now.reader.now)) c.put.ensures

pub put_routes-requires-clause-few : goal.put_routes-requires-clause-few
put_routes-requires-clause-few c =
    let rs = c.in-Some.rs.now in
    let few = few_fields c.args.self.now.reader.now (slice_get c.args.self.now.writer.now c.args.wn) c.args.rn _ _ c.is_well_formed-2.ensures (sym c.field_lists.ensures.lists ∙ ap (option_map both_lists) c.in-Some.is) in
    omega (arith, few, length-map rs field_of)

pub put_routes-requires-clause-fields : goal.put_routes-requires-clause-fields
put_routes-requires-clause-fields c = same_fields c.args.self.now.reader.now (slice_get c.args.self.now.writer.now c.args.wn) c.args.rn _ _ (sym c.field_lists.ensures.lists ∙ ap (option_map both_lists) c.in-Some.is)

pub put_routes-requires-clause-routes : goal.put_routes-requires-clause-routes
put_routes-requires-clause-routes c =
    let few = few_fields c.args.self.now.reader.now (slice_get c.args.self.now.writer.now c.args.wn) c.args.rn _ _ c.is_well_formed-2.ensures (sym c.field_lists.ensures.lists ∙ ap (option_map both_lists) c.in-Some.is) in
    subst (λ (rs : List Route). AreRoutes (length c.args.self.now.writer.now) (length c.args.self.now.reader.now) MOST_FIELDS rs) (sym (c.deref.ensures.value ∙ c.in_ok-routes.ensures)) (routes_within (length c.args.self.now.writer.now) (length c.args.self.now.reader.now) MOST_FIELDS _ _ c.in-Some.ensures.writer.below c.in-Some.ensures.reader.below few)

pub returns-clause-statements : goal.returns-clause-statements
returns-clause-statements c =
    let W = c.args.self.now.writer.now in
    let R = c.args.self.now.reader.now in
    let old = statements_in W R c.args.statements.now.items in
    let fs = fields_of c.in-Some.ws.now in
    let gs = fields_of c.in-Some.rs.now in
    let lists = sym c.field_lists.ensures.lists ∙ ap (option_map both_lists) c.in-Some.is in
    let are = c.deref.ensures.value ∙ c.in_ok-routes.ensures in
    on_ok_weaker c.put_routes.result (λ h. parts_some (field_lists (slice_get W c.args.wn) (slice_get R c.args.rn)) (fs, gs) (λ p. write_routine W R p.0 p.1) old _ (write_routine W R fs gs) lists refl
    (h ∙ ap (λ rs. old ++ routine_statements (length c.in-Some.rs.now) (fields_code W R rs) (defaults_code rs 0 gs)) are
    ∙ ap (λ n. old ++ routine_statements n (fields_code W R (routes fs gs)) (defaults_code (routes fs gs) 0 gs)) (sym (length-map c.in-Some.rs.now field_of)))) c.put_routes.ensures.statements
