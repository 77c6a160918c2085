use Rattle.std.proofs.Common.{sym}
use Rattle.schema_registry.proofs.registry.Registry.decide.Goals as goal

pub returns-in-Some-clause-ok : goal.returns-in-Some-clause-ok
returns-in-Some-clause-ok c = record { number = c.in-Some.known.number; found = sym (rw c.schema.ensures at c.in-Some.ensures) }
