-- What lines of `replay` say that make a registry. This project's own.
use Rattle.std.specs.Prelude.{◌≡◌, ◌==◌, ◌++◌, ◌∷◌, [], ℕ, ◌+◌, length, Bool, true, if◌then◌else◌, List, Option, Some, None, option_map}
use Rattle.spec_lines.specs.Reading.{replay_line}
use Rattle.spec_lines.specs.Request.{Happen, Request}
use Rattle.spec_registry.specs.Command.{Command, RegisterCommand, SetLevelCommand}
use Rattle.spec_sessions.specs.Event.{Register, SetLevel}

-- it is empty, or begins with `#`, 35
abbrev pub is_silent : List ℕ → Bool
is_silent [] = true
is_silent (byte ∷ rest) = byte == 35

-- the command of a request that changes a registry
abbrev pub command_in : Option Request → Option Command
command_in (Some (Happen (Register subject text))) = Some (RegisterCommand subject text)
command_in (Some (Happen (SetLevel subject level))) = Some (SetLevelCommand subject level)
command_in other = None

-- what a line says, where it is taken: nothing, or a command
abbrev pub said_in : List ℕ → Option (List Command)
said_in line = if is_silent line then Some [] else option_map (λ c. c ∷ []) (command_in (replay_line line))

-- each of these lines is taken, and this is what they say
abbrev pub Say : List (List ℕ) → List Command → Type 0
Say [] commands = commands ≡ []
Say (line ∷ lines) commands =
    (first : List Command) × (rest : List Command) × (said_in line ≡ Some first) × Say lines rest
    × (commands ≡ first ++ rest)

-- the lines before the one with this number, counted from 1, are taken, and say this
pub record AreBefore (lines : List (List ℕ)) (number : ℕ) (commands : List Command) : Type 0 where
  pub before : List (List ℕ)
  pub after : List (List ℕ)
  pub whole : lines ≡ before ++ after
  pub place : number ≡ length before + 1
  pub said : Say before commands
