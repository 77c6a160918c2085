use Rattle.std.proofs.Common.{◌∙◌}
use Rattle.std.proofs.lemmas.Iterator.{YieldsList-from_zip}
use Rattle.std.proofs.lemmas.Iterator.Adapters.{YieldsList-from_vec}
use Rattle.std.proofs.lemmas.Iterator.Consumers.{YieldsList-end}
use Rattle.avro_schema.proofs.Finished.{fields-zipped}
use Rattle.avro_schema.proofs.finishing.fields_with.Goals as goal

pub returns : goal.returns
returns c =
    let all = YieldsList-end (YieldsList-from_zip (YieldsList-from_vec c.args.fields.items (cc) (cc)) (YieldsList-from_vec c.args.defaults.items (cc) (cc))) c.loop-field.yielded c.loop-field.field-iterator c.loop-field.yielded_by c.next.result c.next.new.self c.in-None.is c.next.ensures.steps in
    c.loop-field.invariant ∙ fields-zipped c.loop-field.yielded c.args.fields.items c.args.defaults.items all.0
