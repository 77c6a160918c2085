-- One field more, and none left.
use Rattle.std.proofs.Common.{◌≡◌, ◌<◌, ◌++◌, length, arith, sym, ap, ◌∙◌, append-nil, get_or}
use Rattle.std.specs.Prelude.{slice_get}
use Rattle.std.proofs.lemmas.Grind.{common_steps}
use Rattle.std.proofs.Math.ListN.{drop_of_length-le}
use Rattle.avro_types.specs.Node.{fields_of}
use Rattle.spec_avro.specs.Partners.{has_partner}
use Rattle.spec_machine.specs.Writing.{defaults_code}
use Rattle.program_ir.specs.Statements.{statements_in}
use Rattle.program_compiler.proofs.RoutineSteps.{default_on, field_at}
use Rattle.program_compiler.proofs.schema_pair.SchemaPair.put_defaults.Goals as goal

pub loop-position-preserved : goal.loop-position-preserved
loop-position-preserved c = λ W.
    let i = c.loop-position.position in
    let rs = c.args.rs.now in
    let f = c.index-rs-position.result in
    let lt : i < length rs = c.loop-position-test.true in
    let is : f ≡ get_or rs i f = c.index-rs-position.is in
    let mark = c.in_ok-marks.ensures.mark i lt in
    let has : c.index.result.now ≡ has_partner i c.args.routes.now = grind (arith, common_steps, mark, c.index.ensures, c.in_ok-marks.ensures.each) in
    let at = ap (λ gs. slice_get gs i) c.requires.fields ∙ field_at rs i f lt is in
    default_on c.args.routes.now rs i f (statements_in W c.args.self.now.reader.now c.loop-position.statements.items) _ _ lt is (c.in_ok-put_default.ensures W c.args.self.now.reader.now c.args.routes.now has at) (c.loop-position.invariant W)

pub returns : goal.returns
returns c = λ W.
    let i = c.loop-position.position in
    let statements = statements_in W c.args.self.now.reader.now c.loop-position.statements.items in
    sym (append-nil statements) ∙ ap (λ rs. statements ++ defaults_code c.args.routes.now i (fields_of rs)) (sym (drop_of_length-le c.args.rs.now c.loop-position-test.false)) ∙ c.loop-position.invariant W
