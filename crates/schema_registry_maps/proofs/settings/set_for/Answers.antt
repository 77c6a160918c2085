use Rattle.std.proofs.Common.{rules}
use Rattle.schema_registry_maps.proofs.settings.set_for.Goals as goal

-- no other tactic is tried where the function is wrong
pub returns-in-Some : goal.returns-in-Some
returns-in-Some g c = search rules
