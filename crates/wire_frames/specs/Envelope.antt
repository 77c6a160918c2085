-- For a private clause: the writer that a message names.
use Rattle.std.specs.Prelude.{◌≡◌, ℕ, List, Option, None, Some}
use Rattle.spec_registry.specs.declared.envelope.EnvelopeError.{EnvelopeError}
use Rattle.spec_registry.specs.Envelope.{envelope, IsNoMessage}

-- the id of the writer's schema that bytes name; none where they are no message
abbrev pub IsWriterOf : List ℕ → Option ℕ → Type 0
IsWriterOf bytes (Some id) = (payload : List ℕ) × (bytes ≡ envelope id payload)
IsWriterOf bytes None = (error : EnvelopeError) × IsNoMessage bytes error
