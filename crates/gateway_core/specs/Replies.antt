-- Replies and refusals of the registry as answers (Confluent Schema Registry API).
use Rattle.std.specs.Prelude.{◌≡◌, Bool, true, false}
use Rattle.spec_registry.specs.Command.{Command, SetLevelCommand}

-- for a private clause: whether a command sets a level
abbrev pub SetsLevel : Command → Bool → Type 0
SetsLevel (SetLevelCommand subject level) is = is ≡ true
SetsLevel c is = is ≡ false
