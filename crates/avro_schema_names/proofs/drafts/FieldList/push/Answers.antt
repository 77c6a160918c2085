use Rattle.std.proofs.Common.{ap, map, string_bytes, ◌∙◌}
use Rattle.avro_schema_names.specs.Draft.{draft_field_of}
use Rattle.avro_schema_names.specs.Laws.Plain.{map-push}
use Rattle.avro_schema_names.proofs.Index.{names-behind}
use Rattle.avro_schema_names.proofs.drafts.FieldList.push.Goals as goal

pub invariant_of-self-in-Ok : goal.invariant_of-self-in-Ok
invariant_of-self-in-Ok c =
    let l = c.self.inside in
    let all = ap (map draft_field_of) c.in_ok-push.ensures.items ∙ map-push draft_field_of l.fields.items c.args.field in
    names-behind (string_bytes c.in_ok-name.name) l.names c.insert.new.self (map draft_field_of l.fields.items) (map draft_field_of c.push.new.self.items) (draft_field_of c.args.field) c.self.invariant all c.in_ok-name.ensures.cases c.in-Ok.ensures.updates
