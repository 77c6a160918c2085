-- What a registry replies. Texts are lists of bytes. This project's own.
use Rattle.std.specs.Prelude.{ℕ, Bool, List}
use Rattle.spec_registry.specs.declared.level.Level.{Level}

pub data Reply : Type 0 where
  IdReply : ℕ → Reply
  -- the subject, the version, the id, and the schema's compact text
  EntryReply : List ℕ → ℕ → ℕ → List ℕ → Reply
  CompatibleReply : Bool → Reply
  NumbersReply : List ℕ → Reply
  NamesReply : List (List ℕ) → Reply
  TextReply : List ℕ → Reply
  LevelReply : Level → Reply
