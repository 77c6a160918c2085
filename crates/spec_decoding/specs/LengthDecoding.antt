-- What decoding a length at an offset gives (Avro 1.11, "Binary Encoding", bytes and string).
use Rattle.std.specs.Prelude.{ℕ, List, nat_lt, if◌then◌else◌, ℤ, pos, negsuc}
use Rattle.spec_avro.specs.declared.malformed.MalformedKind.TheVariants.{BadLength}
use Rattle.spec_avro.specs.declared.limits.TheConstants.{MOST_CONTENT}
use Rattle.spec_avro.specs.declared.meter.Meter.{Meter}
use Rattle.spec_decoding.specs.Decoding.{Complete, Decoding, Failed, ◌>>=◌}
use Rattle.spec_avro.specs.Defect.{Malformed}
use Rattle.spec_avro.specs.Number.{long_limit}
use Rattle.spec_decoding.specs.NumberDecoding.{number_at}

-- a number that was read at an offset, where it is a length
abbrev pub length_of : ℕ → ℤ → ℕ → Meter → Decoding ℕ
length_of at (pos n) to m = if nat_lt MOST_CONTENT n then Failed (Malformed BadLength at) else Complete n to m
length_of at (negsuc n) to m = Failed (Malformed BadLength at)

-- the length at an offset
unfoldable pub length_at : List ℕ → ℕ → Meter → Decoding ℕ
length_at bytes at m = number_at long_limit bytes at m >>= length_of at
