-- A message is the envelope of one id and one payload alone. This project's own.
use Rattle.std.specs.Prelude.{◌≡◌, ◌<◌, ◌^◌, ℕ, List}
use Rattle.spec_registry.specs.Envelope.{envelope}

abbrev pub OneId : Type 0
OneId = (id other : ℕ) (payload rest : List ℕ) → id < 2 ^ 32 → other < 2 ^ 32
    → envelope id payload ≡ envelope other rest → id ≡ other

abbrev pub OnePayload : Type 0
OnePayload = (id other : ℕ) (payload rest : List ℕ)
    → envelope id payload ≡ envelope other rest → payload ≡ rest
