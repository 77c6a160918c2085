-- How long the message of a request may be. This project's own.
use Rattle.std.specs.Prelude.{◌≤◌, ℕ, List, length, Option, Some, None}
use Rattle.spec_service.specs.Request.{Request, Asks, Registers, AsksSchema, Transcodes}

-- the message in it, if it has one, has at most `most` bytes
abbrev pub IsWithin : ℕ → Request → Type 0
IsWithin most (Asks command) = Unit {0}
IsWithin most (Registers subject text) = Unit {0}
IsWithin most (AsksSchema id) = Unit {0}
IsWithin most (Transcodes id message) = length message ≤ most

-- how many bytes a body has, which is none where it was cut short
abbrev pub size_of : Option (List ℕ) → ℕ
size_of None = 0
size_of (Some bytes) = length bytes
