use Rattle.serde_json.specs.Data.{string}
use Rattle.avro_schema_faults.proofs.Searching.{leaf-adds, name-adds, sought-next, sought-none}
use Rattle.avro_schema_faults.proofs.seeking.seek_in_text.Goals as goal

pub returns-then-is_leaf : goal.returns-then-is_leaf
returns-then-is_leaf c = sought-next (string c.args.text.now) (leaf-adds c.args.text.now c.if-is_leaf.ensures) c.args.left c.checked_sub.result c.checked_sub.ensures

pub returns : goal.returns
returns c = sought-none (string c.args.text.now) (name-adds c.args.text.now c.if-is_leaf.ensures) c.args.left
