use Rattle.schema_registry.proofs.Levels.{level-read}
use Rattle.command_io.proofs.texts.level_of.Goals as goal

pub returns : goal.returns
returns c = rw c.ok.ensures.value (level-read _ _ c.parse_level.ensures)
