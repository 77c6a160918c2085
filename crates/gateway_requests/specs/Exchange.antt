-- How far a request and its answer have come over a stream. This project's own.
use Rattle.std.specs.Prelude.{◌≡◌, ◌+◌, ◌++◌, ℕ, List, Option, take, drop}
use Rattle.std.specs.Io.KnownBytes.{Appends, Consumes}
use Rattle.spec_service.specs.Sending.{Sent}

-- some bytes more were taken from a stream, and follow those that came before
pub record Gains (left rest : Option (List ℕ)) (before after : List ℕ) : Type 0 where
  pub more : List ℕ
  pub consumes : Consumes left rest more
  pub follows : after ≡ before ++ more

-- some bytes more of an answer were written, which are those that follow what was sent before
pub record Sends (old new : Option (List ℕ)) (before after : Sent) : Type 0 where
  pub count : ℕ
  pub counted : after ≡ record before { sent = before.sent + count }
  pub written : Appends old new (take count (drop before.sent before.bytes))
