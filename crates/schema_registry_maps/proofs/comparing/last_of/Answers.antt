use Rattle.std.proofs.Common.{◌<◌, arith, length}
use Rattle.std.proofs.lemmas.Bool.Decides.{nat_tests}
use Rattle.schema_registry_maps.proofs.Last.{last-range}
use Rattle.schema_registry_maps.proofs.comparing.last_of.Goals as goal

pub returns : goal.returns
returns c = let lt : 0 < length c.args.ids.now = grind (arith, nat_tests) in last-range c.args.ids.now lt
