use Rattle.std.proofs.Common.{◌∙◌}
use Rattle.resolver.proofs.Names.{scanned}
use Rattle.resolver.proofs.pairing.position_of.Goals as goal

pub returns-in-None-clause-place : goal.returns-in-None-clause-place
returns-in-None-clause-place c = c.scan.ensures ∙ scanned c.args.name.now c.args.fields.now
