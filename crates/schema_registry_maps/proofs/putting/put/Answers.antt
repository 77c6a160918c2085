use Rattle.std.proofs.Common.{Some, string_bytes}
use Rattle.std.proofs.lemmas.Map.Text.{btree_map_updates_text}
use Rattle.schema_registry_maps.proofs.putting.put.Goals as goal

pub returns-clause-ok : goal.returns-clause-ok
returns-clause-ok g c = btree_map_updates_text (string_bytes c.args.text) c.args.map.now c.insert.new.self (Some c.args.value) c.in_ok-insert.ensures.updates
