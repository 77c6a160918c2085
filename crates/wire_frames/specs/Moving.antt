-- What a read adds to the bytes that came before. This project's own.
use Rattle.std.specs.Prelude.{◌≡◌, ℕ, List, ◌++◌, length, Option}
use Rattle.std.specs.Io.KnownBytes.{Consumes, IsAtEnd}

-- count more bytes were taken from a reader, and follow those that came before; none only where the reader has ended
pub record Receives (left rest : Option (List ℕ)) (before after : List ℕ) (count : ℕ) : Type 0 where
  pub more : List ℕ
  pub consumes : Consumes left rest more
  pub long : length more ≡ count
  pub follows : after ≡ before ++ more
  pub at_end : count ≡ 0 → IsAtEnd rest
