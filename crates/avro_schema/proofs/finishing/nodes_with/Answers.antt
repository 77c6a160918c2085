use Rattle.std.proofs.Common.{◌∙◌}
use Rattle.std.proofs.lemmas.Iterator.{YieldsList-from_zip}
use Rattle.std.proofs.lemmas.Iterator.Adapters.{YieldsList-from_vec}
use Rattle.std.proofs.lemmas.Iterator.Consumers.{YieldsList-end}
use Rattle.avro_schema.proofs.Finished.{nodes-zipped}
use Rattle.avro_schema.proofs.finishing.nodes_with.Goals as goal

pub returns : goal.returns
returns c =
    let whole = YieldsList-end (YieldsList-from_zip (YieldsList-from_vec c.args.drafts.items (cc) (cc)) (YieldsList-from_vec c.args.all.items (cc) (cc))) c.loop-draft.yielded c.loop-draft.draft-iterator c.loop-draft.yielded_by c.next.result c.next.new.self c.in-None.is c.next.ensures.steps in
    c.loop-draft.invariant ∙ nodes-zipped c.loop-draft.yielded c.args.drafts.items c.args.all.items whole.0
