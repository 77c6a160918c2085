-- What happens to a world of sessions: events, some of which are acts on one session. Texts are lists of bytes. All of
-- this is this project's own.
use Rattle.std.specs.Prelude.{ℕ, List, Option}
use Rattle.spec_registry.specs.declared.level.Level.{Level}

-- what happens to one session
pub data Act : Type 0 where
  Piece : List ℕ → Act
  Finish : Act
  -- the worker that takes the rows, and how many at most
  Slice : ℕ → ℕ → Act
  -- the worker that holds it from now on
  Steal : ℕ → Act
  Break : ℕ → Act
  Clear : ℕ → Act
  Walk : ℕ → Act
  Go : ℕ → Act
  Refuse : Act

pub data Event : Type 0 where
  -- the subject, and a schema's text
  Register : List ℕ → List ℕ → Event
  -- no subject: the global level
  SetLevel : Option (List ℕ) → Level → Event
  -- the ids of a writer's and a reader's schema
  Publish : ℕ → ℕ → Event
  Begin : ℕ → ℕ → Event
  -- the number of the session
  On : ℕ → Act → Event
