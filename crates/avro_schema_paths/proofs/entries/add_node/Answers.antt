-- One more.
use Rattle.std.proofs.Common.{◌∙◌, refl, append-nil}
use Rattle.avro_schema_paths.proofs.Adding.{adds_one}
use Rattle.avro_schema_paths.proofs.entries.add_node.Goals as goal

pub returns : goal.returns
returns c = adds_one c.args.node c.args.path.now _ c.args.out.now.items c.push.new.self.items refl (c.in_ok-path.ensures ∙ append-nil c.args.path.now) c.in_ok-push.ensures.items
