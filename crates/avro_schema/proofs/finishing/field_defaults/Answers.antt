use Rattle.std.proofs.Common.{List, Option, option_map, refl, sym, ap, ◌∙◌, arith}
use Rattle.std.specs.Option.{ok_or}
use Rattle.spec_schema.specs.declared.schema_error.SchemaError.TheVariants.{BadDefault}
use Rattle.spec_avro.specs.Datum.{Datum}
use Rattle.avro_types.specs.Datum.{datum_of}
use Rattle.avro_schema_names.specs.Draft.{drafts_of}
use Rattle.avro_schema.proofs.Finished.{field_read, fields_read, fields_read-steps, row-on, row-ends}
use Rattle.avro_schema.proofs.finishing.field_defaults.Goals as goal

pub loop-field-preserved : goal.loop-field-preserved
loop-field-preserved c =
    let l = c.loop-field in
    let ds = drafts_of c.args.drafts.now in
    rw c.in_ok-push.ensures.items (sym (row-on (field_read ds) (option_map datum_of) (fields_read ds) refl (fields_read-steps ds) c.args.fields.now l.field-index c.field-item.result (omega arith) c.field-item.is l.defaults.items c.in_ok-default.default c.in_ok-default.ensures) ∙ l.invariant)

pub returns : goal.returns
returns c =
    let l = c.loop-field in
    let ds = drafts_of c.args.drafts.now in
    ap (λ (o : Option (List (Option Datum))). ok_or o BadDefault) (sym l.invariant ∙ row-ends (field_read ds) (option_map datum_of) (fields_read ds) refl (fields_read-steps ds) c.args.fields.now l.field-index (omega arith) l.defaults.items)
