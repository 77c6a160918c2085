use Rattle.avro_schema.proofs.DeclaringBothWays.{declares, gives}
use Rattle.avro_schema.proofs.walk_laws.walk_gives_what_is_declared.Goals as goal

pub returns : goal.returns
returns c = record { sound = declares; complete = gives }
