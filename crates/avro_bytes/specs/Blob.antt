-- What decoding bytes or a fixed at an offset gives (Avro 1.11, "Binary Encoding", bytes and fixed).
use Rattle.std.specs.Prelude.{ℕ, ◌+◌, ◌-◌, List, length, take, drop, nat_lt, if◌then◌else◌}
use Rattle.spec_avro.specs.declared.meter.Meter.{Meter}
use Rattle.spec_decoding.specs.Decoding.{Complete, Decoding, Failed, ◌>>=◌}
use Rattle.spec_avro.specs.Defect.{Need}
use Rattle.spec_decoding.specs.LengthDecoding.{length_at}

-- the bytes of a fixed at an offset
unfoldable pub fixed_at : ℕ → List ℕ → ℕ → Meter → Decoding (List ℕ)
fixed_at size bytes at m =
    if nat_lt (length bytes - at) size then Failed Need
    else Complete (take size (drop at bytes)) (at + size) m

-- the content after the length at an offset: a fixed of that size
unfoldable pub content_at : List ℕ → ℕ → Meter → Decoding (List ℕ)
content_at bytes at m = length_at bytes at m >>= λ n to after. fixed_at n bytes to after
