-- Decoding a number (Avro 1.11, "Binary Encoding", int and long): its bytes are those up to the first without the high
-- bit.
use Rattle.std.specs.Prelude.{ℕ, zero, suc, ◌+◌, ◌/◌, ◌%◌, List, [], ◌∷◌, length, drop, nat_lt, ◌==◌, if◌then◌else◌, ℤ, pos, negsuc}
use Rattle.spec_avro.specs.declared.meter.Meter.{Meter}
use Rattle.spec_avro.specs.declared.malformed.MalformedKind.TheVariants.{BadNumber}
use Rattle.spec_avro.specs.Number.{Limit, groups_sum}
use Rattle.spec_decoding.specs.Decoding.{Complete, Decoding, Failed}
use Rattle.spec_avro.specs.Defect.{Malformed, Need}

-- 0, 1, 2, 3, 4 .. as 0, -1, 1, -2, 2 ..
abbrev pub from_zigzag : ℕ → ℤ
from_zigzag n = if n % 2 == 0 then pos (n / 2) else negsuc (n / 2)

-- the bytes of the number at the front of a list; or its last byte is too great; or the list ends inside it
pub data Front : Type 0 where
  Ends : List ℕ → Front
  TooGreat : Front
  Open : Front

abbrev pub longer : ℕ → Front → Front
longer b (Ends bytes) = Ends (b ∷ bytes)
longer b TooGreat = TooGreat
longer b Open = Open

-- for a number of at most n bytes, the nth of which is at most `top`
unfoldable pub number_front : ℕ → ℕ → List ℕ → Front
number_front zero top bytes = TooGreat
number_front (suc left) top [] = Open
number_front (suc zero) top (b ∷ bytes) = if nat_lt top b then TooGreat else Ends (b ∷ [])
number_front (suc (suc left)) top (b ∷ bytes) =
    if nat_lt b 128 then Ends (b ∷ []) else longer b (number_front (suc left) top bytes)

abbrev pub number_of : ℕ → Meter → Front → Decoding ℤ
number_of at m (Ends bytes) = Complete (from_zigzag (groups_sum bytes)) (at + length bytes) m
number_of at m TooGreat = Failed (Malformed BadNumber at)
number_of at m Open = Failed Need

-- the number at an offset
unfoldable pub number_at : Limit → List ℕ → ℕ → Meter → Decoding ℤ
number_at limit bytes at m = number_of at m (number_front limit.most limit.top (drop at bytes))
