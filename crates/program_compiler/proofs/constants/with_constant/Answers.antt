-- The defaults keep their numbers.
use Rattle.std.proofs.Common.{◌∷◌, []}
use Rattle.program_compiler.proofs.Defaults.{defaults_still}
use Rattle.program_compiler.proofs.constants.with_constant.Goals as goal

pub returns-in_ok-with-in-Some-clause-defaults : goal.returns-in_ok-with-in-Some-clause-defaults
returns-in_ok-with-in-Some-clause-defaults c = defaults_still c.args.r.now c.args.defaults.now c.args.constants _ (c.in-Some.bytes.items ∷ []) c.requires c.in_ok-with-in-Some.ensures
