-- What a line of `replay` asks for. Texts are lists of bytes. All of this is this project's own.
use Rattle.std.specs.Prelude.{ℕ}
use Rattle.spec_registry.specs.declared.refusal.Refusal.{Refusal}
use Rattle.spec_sessions.specs.Event.{Event}

pub data Request : Type 0 where
  Happen : Event → Request
  -- a level is to be set, by a word that names none, and why it is not
  NoLevel : Refusal → Request
  -- a text of the session of this number: its state, the listing of its program, how it ended
  Show : ℕ → Request
  ListCode : ℕ → Request
  TellResult : ℕ → Request
