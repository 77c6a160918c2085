use Rattle.std.proofs.Common.{None}
use Rattle.std.proofs.lemmas.Map.Text.{btree_map_updates_text}
use Rattle.schema_registry_maps.proofs.Changes.{same-taken}
use Rattle.schema_registry_maps.proofs.adding.add_text.Goals as goal

pub returns-in-Err-clause-err : goal.returns-in-Err-clause-err
returns-in-Err-clause-err c =
    let taken = btree_map_updates_text c.args.text.now c.put_copy.new.map c.remove.new.self None c.remove.ensures.updates in
    (same-taken c.args.ids.now c.put_copy.new.map c.args.text.now c.remove.new.self c.args.id c.requires.lacking c.in_ok-put_copy.ensures.ok taken, c.in-Err.ensures.err)
