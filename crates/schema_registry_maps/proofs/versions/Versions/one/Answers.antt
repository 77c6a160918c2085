use Rattle.schema_registry_maps.proofs.Numbers.{none_yet}
use Rattle.schema_registry_maps.proofs.versions.Versions.one.Goals as goal

pub invariant_of-versions : goal.invariant_of-versions
invariant_of-versions c = rw c.new.ensures.items (none_yet c.new-2.result c.new-2.ensures.empty)
