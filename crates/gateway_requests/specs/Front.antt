-- Which head the bytes of a request begin with, as this server takes one.
use Rattle.std.specs.Prelude.{◌≡◌, ℕ, ◌+◌, ◌≤◌, List, ◌++◌, length, take, Option, IfSome}
use Rattle.std.specs.Io.KnownBytes.{Consumes, IsAtEnd}
use Rattle.httparse.specs.Grammar.{RequestHead}
use Rattle.httparse.specs.Spans.{IsRequestAt, IsRequestWithin}
use Rattle.httparse.specs.declared.spans.HeaderSpan.{HeaderSpan}
use Rattle.gateway_requests.specs.declared.head.Front.{Front}
use Rattle.gateway_requests.specs.declared.head.Front.TheVariants.{Head, NoHead}
use Rattle.spec_service.specs.Front.{IsAllowed, HasNoHead}

-- what was found in the first bytes of a buffer, which are what was taken from a reader
abbrev pub IsFrontOf : Option (List ℕ) → Option (List ℕ) → List ℕ → List HeaderSpan → Front → Type 0
IsFrontOf old new buffer headers (Head spans received) =
    (received ≤ length buffer)
    × Consumes old new (take received buffer)
    × IsRequestWithin (take received buffer) headers spans
    × (head : RequestHead) × IsRequestAt (take received buffer) headers spans head × IsAllowed head
IsFrontOf old new buffer headers NoHead = IfSome old HasNoHead

-- for a private clause: count more bytes were taken from a reader into a buffer, after those that had been received;
-- none only where the reader has ended
pub record TakesMore (old new : Option (List ℕ)) (before after : List ℕ) (received count : ℕ) : Type 0 where
  pub more : List ℕ
  pub consumes : Consumes old new more
  pub long : length more ≡ count
  pub fits : received + count ≤ length after
  pub room : length after ≡ length before
  pub behind : take (received + count) after ≡ take received before ++ more
  pub at_end : count ≡ 0 → IsAtEnd new
