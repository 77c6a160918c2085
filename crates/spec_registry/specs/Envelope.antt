-- Messages in the wire format (Confluent Schema Registry, "Wire format"): a magic byte 0, the id of the writer's schema
-- in four bytes, the highest first, and the payload. Which refusal comes first is this project's own.
use Rattle.std.specs.Prelude.{◌≢◌, ◌<◌, ◌≤◌, ℕ, List, ◌∷◌, ◌++◌, length, codes, slice_index}
use Rattle.std.specs.Int.{w32, to_be_bytes}
use Rattle.spec_registry.specs.declared.envelope.TheConstants.{PREFIX_LENGTH}
use Rattle.spec_registry.specs.declared.envelope.EnvelopeError.{EnvelopeError}
use Rattle.spec_registry.specs.declared.envelope.EnvelopeError.TheVariants.{ShortEnvelope, BadMagic}

-- what comes before a payload
abbrev pub prefix : ℕ → List ℕ
prefix id = 0 ∷ to_be_bytes w32 id

-- the message of an id and a payload
abbrev pub envelope : ℕ → List ℕ → List ℕ
envelope id payload = prefix id ++ payload

-- why bytes are no message: they are too few, or else they begin with another byte
abbrev pub IsNoMessage : List ℕ → EnvelopeError → Type 0
IsNoMessage bytes ShortEnvelope = length bytes < PREFIX_LENGTH
IsNoMessage bytes BadMagic = (PREFIX_LENGTH ≤ length bytes) × (slice_index bytes 0 ≢ 0)

-- the name of a refusal in answers
abbrev pub name_of : EnvelopeError → List ℕ
name_of ShortEnvelope = codes "ShortEnvelope"
name_of BadMagic = codes "BadMagic"
