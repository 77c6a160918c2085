-- The lines of `replay` of the commands of a store. This project's own.
use Rattle.std.specs.Prelude.{◌≡◌, ℕ, ◌==◌, ◌||◌, true, if◌then◌else◌, List, [], ◌∷◌, ◌++◌, Option, Some, None, IfSome, IsSome, codes, map}
use Rattle.std.specs.List.{AllByRecursion, flat_map}
use Rattle.registry_store.specs.Store.{HasCommands}
use Rattle.registry_store.specs.Stored.{Stored, Registered, LevelSet}
use Rattle.spec_registry.specs.Subject.{is_subject}
use Rattle.spec_registry.specs.Level.{level_named}

-- a space for LF and CR, which JSON allows only where it allows a space
abbrev pub one_line_byte : ℕ → ℕ
one_line_byte byte = if (byte == 10) || (byte == 13) then 32 else byte

-- `*` is the global level's subject
abbrev pub subject_or_star : Option (List ℕ) → List ℕ
subject_or_star None = codes "*"
subject_or_star (Some subject) = subject

-- the line that registers the schema, or sets the level, again, with its LF
abbrev pub replay_line : Stored → List ℕ
replay_line (Registered id subject text) =
    codes "register " ++ (subject ++ 32 ∷ (map one_line_byte text ++ 10 ∷ []))
replay_line (LevelSet subject level) =
    codes "level " ++ (subject_or_star subject ++ 32 ∷ (level ++ 10 ∷ []))

-- the lines of these commands, in their order
abbrev pub replay_lines : List Stored → List ℕ
replay_lines commands = flat_map replay_line commands

-- the subject, where there is one, has a name by the rule, and the level is one
abbrev pub HasNames : Stored → Type 0
HasNames (Registered id subject text) = is_subject subject ≡ true
HasNames (LevelSet subject level) = IfSome subject (λ s. is_subject s ≡ true) × IsSome (level_named level)

-- the file is that of a store, and these are the lines of the commands that it has
pub record AreItsLines (file output : List ℕ) : Type 0 where
  pub commands : List Stored
  pub has : HasCommands file commands
  pub named : AllByRecursion HasNames commands
  pub lines : output ≡ replay_lines commands
