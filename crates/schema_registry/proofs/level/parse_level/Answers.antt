-- Each name is read as its level.
use Rattle.std.proofs.Common.{◌≡◌}
use Rattle.spec_registry.specs.declared.level.Level.TheVariants as levels
use Rattle.spec_registry.specs.Level.{level_name}
use Rattle.schema_registry.proofs.Levels.{by_name}
use Rattle.schema_registry.proofs.level.parse_level.Goals as goal

pub returns-in-BACKWARD : goal.returns-in-BACKWARD
returns-in-BACKWARD c = let e : level_name levels.Backward ≡ c.args.text.now = cc in by_name c.args.text.now levels.Backward e

pub returns-in-BACKWARD_TRANSITIVE : goal.returns-in-BACKWARD_TRANSITIVE
returns-in-BACKWARD_TRANSITIVE c = let e : level_name levels.BackwardTransitive ≡ c.args.text.now = cc in by_name c.args.text.now levels.BackwardTransitive e

pub returns-in-FORWARD : goal.returns-in-FORWARD
returns-in-FORWARD c = let e : level_name levels.Forward ≡ c.args.text.now = cc in by_name c.args.text.now levels.Forward e

pub returns-in-FORWARD_TRANSITIVE : goal.returns-in-FORWARD_TRANSITIVE
returns-in-FORWARD_TRANSITIVE c = let e : level_name levels.ForwardTransitive ≡ c.args.text.now = cc in by_name c.args.text.now levels.ForwardTransitive e

pub returns-in-FULL : goal.returns-in-FULL
returns-in-FULL c = let e : level_name levels.Full ≡ c.args.text.now = cc in by_name c.args.text.now levels.Full e

pub returns-in-FULL_TRANSITIVE : goal.returns-in-FULL_TRANSITIVE
returns-in-FULL_TRANSITIVE c = let e : level_name levels.FullTransitive ≡ c.args.text.now = cc in by_name c.args.text.now levels.FullTransitive e

pub returns-in-NONE : goal.returns-in-NONE
returns-in-NONE c = let e : level_name levels.None ≡ c.args.text.now = cc in by_name c.args.text.now levels.None e
