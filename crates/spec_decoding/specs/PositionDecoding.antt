-- What decoding a position at an offset gives (Avro 1.11, "Binary Encoding", enum and union).
use Rattle.std.specs.Prelude.{ℕ, List, nat_lt, if◌then◌else◌, ℤ, pos, negsuc}
use Rattle.spec_avro.specs.declared.malformed.MalformedKind.{MalformedKind}
use Rattle.spec_avro.specs.declared.meter.Meter.{Meter}
use Rattle.spec_avro.specs.Number.{int_limit}
use Rattle.spec_decoding.specs.NumberDecoding.{number_at}
use Rattle.spec_decoding.specs.Decoding.{Complete, Decoding, Failed, ◌>>=◌}
use Rattle.spec_avro.specs.Defect.{Malformed}

-- a number that was read at an offset, where it is a position
abbrev pub position_of : MalformedKind → ℕ → ℕ → ℤ → ℕ → Meter → Decoding ℕ
position_of bad many at (pos n) to m = if nat_lt n many then Complete n to m else Failed (Malformed bad at)
position_of bad many at (negsuc n) to m = Failed (Malformed bad at)

-- the position at an offset
unfoldable pub position_at : MalformedKind → ℕ → List ℕ → ℕ → Meter → Decoding ℕ
position_at bad many bytes at m = number_at int_limit bytes at m >>= position_of bad many at
