use Rattle.std.proofs.Common.{arith}
use Rattle.schema_registry_maps.proofs.Numbers.{few_versions}
use Rattle.schema_registry_maps.proofs.versions.Versions.len.Goals as goal

pub returns-clause-few : goal.returns-clause-few
returns-clause-few c = omega (arith, few_versions c.self.inside.numbers c.self.inside.ids.items c.self.invariant)
