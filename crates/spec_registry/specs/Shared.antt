-- What a registry that threads share may return, whatever other threads do. This project's own.
use Rattle.std.specs.Prelude.{◌≡◌, ◌≢◌, ◌⊎◌, ℕ, List, Result, Ok, Err}
use Rattle.spec_registry.specs.declared.refusal.Refusal.{Refusal}
use Rattle.spec_registry.specs.declared.refusal.Refusal.TheVariants.{Clash, NoMemory, NotStored}
use Rattle.spec_registry.specs.Command.{Command, IsQuestion, RegisterCommand}
use Rattle.spec_registry.specs.Reply.{Reply, IdReply}
use Rattle.spec_registry.specs.Accepting.{registry_after}
use Rattle.spec_registry.specs.Answer.{IsAnswer}
use Rattle.spec_registry.specs.Answers.{AreAccepted, Grows, answer_to}
use Rattle.spec_registry.specs.Receipt.{Shown}

-- what is answered to a command after some commands, each of which was accepted in its turn
pub record IsAnswered (c : Command) (result : Result Reply Refusal) : Type 0 where
  pub commands : List Command
  pub accepted : AreAccepted commands
  pub answer : IsAnswer (answer_to (registry_after commands) c) result

-- why a command is refused as a clash: a registration alone is, and one that is answered an id
abbrev pub IsClash : Command → Type 0
IsClash (RegisterCommand subject text) = (id : ℕ) × IsAnswered (RegisterCommand subject text) (Ok (IdReply id))
IsClash c = ⊥

-- A command is not stored only where it changes something and would be accepted.
abbrev pub IsUnstored : Command → Type 0
IsUnstored c = ¬ IsQuestion c × ((reply : Reply) × IsAnswered c (Ok reply))

-- a refusal is such an answer, or the command was not stored
abbrev pub IsRefused : Command → Refusal → Type 0
IsRefused c refusal = ((refusal ≡ NotStored) × IsUnstored c) ⊎ IsAnswered c (Err refusal)

-- after some commands, each of which was accepted in its turn, a command may want memory
pub record MayGrow (c : Command) : Type 0 where
  pub commands : List Command
  pub accepted : AreAccepted commands
  pub grows : Grows (registry_after commands) c

-- a command is refused so or as a clash, unless memory ran out where some may be wanted
abbrev pub IsSomeRefusal : Command → Refusal → Type 0
IsSomeRefusal c refusal = (refusal ≡ NoMemory → MayGrow c)
    × (refusal ≢ NoMemory → ((refusal ≡ Clash) × IsClash c) ⊎ IsRefused c refusal)

-- a reply is such an answer
abbrev pub IsSomeAnswer : Command → Result Reply Refusal → Type 0
IsSomeAnswer c (Ok reply) = IsAnswered c (Ok reply)
IsSomeAnswer c (Err refusal) = IsSomeRefusal c refusal

-- an id that some state answers to a registration, beside its receipt
abbrev pub IsSomeIdOf : Command → Result (ℕ × Shown) Refusal → Type 0
IsSomeIdOf c (Ok (id, receipt)) = IsAnswered c (Ok (IdReply id))
IsSomeIdOf c (Err refusal) = IsSomeRefusal c refusal

abbrev pub IsSomeId : List ℕ → List ℕ → Result (ℕ × Shown) Refusal → Type 0
IsSomeId subject text result = IsSomeIdOf (RegisterCommand subject text) result
