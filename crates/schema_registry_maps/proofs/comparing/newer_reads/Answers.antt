use Rattle.std.proofs.Common.{rules}
use Rattle.schema_registry_maps.proofs.comparing.newer_reads.Goals as goal

-- no other tactic is tried where the function is wrong
pub returns : goal.returns
returns g c = search rules
