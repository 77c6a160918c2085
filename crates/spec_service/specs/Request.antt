-- What is asked of the service. Texts are lists of bytes. All of this is this project's own.
use Rattle.std.specs.Prelude.{ℕ, List}
use Rattle.spec_registry.specs.Command.{Command}

pub data Request : Type 0 where
  -- what the registry replies to a command that is no registration
  Asks : Command → Request
  -- to register the schema of a text for a subject, and to answer its id
  Registers : List ℕ → List ℕ → Request
  -- the text of the schema with an id
  AsksSchema : ℕ → Request
  -- a message for the reader with an id, from the message in the body
  Transcodes : ℕ → List ℕ → Request
