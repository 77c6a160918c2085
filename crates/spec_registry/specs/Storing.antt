-- Which registry a file has after a crash. All of this is this project's own.
use Rattle.std.specs.Prelude.{◌≡◌, ◌⊎◌, ◌∷◌, [], ◌++◌, List, Ok}
use Rattle.spec_registry.specs.Accepting.{registry_after}
use Rattle.spec_registry.specs.Answer.{IsAnswer}
use Rattle.spec_registry.specs.Answers.{answer_to}
use Rattle.spec_registry.specs.Command.{Command}
use Rattle.spec_registry.specs.Reply.{Reply}

-- A start found a registry as these commands make it, or with one command more that would have been accepted.
abbrev pub IsFoundAfter : List Command → List Command → Type 0
IsFoundAfter commands found = (registry_after found ≡ registry_after commands)
    ⊎ ((c : Command) × (reply : Reply) × IsAnswer (answer_to (registry_after commands) c) (Ok reply)
    × (registry_after found ≡ registry_after (commands ++ c ∷ [])))
