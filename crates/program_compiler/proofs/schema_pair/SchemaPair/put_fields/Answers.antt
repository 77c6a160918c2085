-- One field more, and none left.
use Rattle.std.proofs.Common.{◌++◌, append-nil, length, None, sym, ap, ◌∙◌}
use Rattle.std.proofs.Math.ListN.{drop_of_length-le}
use Rattle.spec_avro.specs.declared.place.Route.{Route}
use Rattle.spec_machine.specs.Writing.{fields_code}
use Rattle.program_ir.specs.Statements.{statements_in}
use Rattle.program_compiler.proofs.RoutineSteps.{field_on, has_slot, route_here}
use Rattle.program_compiler.proofs.schema_pair.SchemaPair.put_fields.Goals as goal

-- a route, where there is none
abbrev nowhere : Route
nowhere = record { node = 0; partner = None }

pub put_slot-requires-clause-slot : goal.put_slot-requires-clause-slot
put_slot-requires-clause-slot c =
    has_slot (length c.args.self.now.writer.now) (length c.args.self.now.reader.now) c.args.routes.now c.loop-field.field nowhere c.loop-field-test.true
    (route_here (length c.args.self.now.writer.now) (length c.args.self.now.reader.now) c.args.routes.now c.loop-field.field nowhere c.loop-field-test.true c.loop-field.invariant.left).0

pub read_field-requires-clause-route : goal.read_field-requires-clause-route
read_field-requires-clause-route c =
    (route_here (length c.args.self.now.writer.now) (length c.args.self.now.reader.now) c.args.routes.now c.loop-field.field nowhere c.loop-field-test.true c.loop-field.invariant.left).0

pub loop-field-preserved : goal.loop-field-preserved
loop-field-preserved c =
    let W = c.args.self.now.writer.now in
    let R = c.args.self.now.reader.now in
    record {
      so_far = field_on W R c.args.routes.now c.loop-field.field nowhere (statements_in W R c.loop-field.statements.items) _ _ _ c.loop-field-test.true (c.in_ok-put_slot.ensures W R) c.in_ok-read_field.ensures.statements c.loop-field.invariant.so_far;
      known = c.read_field.ensures.known;
      left = (route_here (length W) (length R) c.args.routes.now c.loop-field.field nowhere c.loop-field-test.true c.loop-field.invariant.left).1;
    }

pub returns-clause-statements : goal.returns-clause-statements
returns-clause-statements c =
    let W = c.args.self.now.writer.now in
    let R = c.args.self.now.reader.now in
    let statements = statements_in W R c.loop-field.statements.items in
    sym (append-nil statements) ∙ ap (λ rs. statements ++ fields_code W R rs) (sym (drop_of_length-le c.args.routes.now c.loop-field-test.false)) ∙ c.loop-field.invariant.so_far
