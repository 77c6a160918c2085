use Rattle.std.proofs.Common.{◌∙◌}
use Rattle.avro_schema_names.proofs.drafts.Drafts.number_of.Goals as goal

pub returns : goal.returns
returns c = rw (← c.self.view_is) (c.copied.ensures ∙ c.get.ensures.value ∙ c.self.invariant.numbered c.args.namespace.now)
