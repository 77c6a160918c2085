-- What decoding a boolean at an offset gives (Avro 1.11, "Binary Encoding", boolean).
use Rattle.std.specs.Prelude.{ℕ, ◌+◌, List, [], ◌∷◌, drop, ◌==◌, if◌then◌else◌, Bool, true, false}
use Rattle.spec_avro.specs.declared.meter.Meter.{Meter}
use Rattle.spec_avro.specs.declared.malformed.MalformedKind.TheVariants.{BadBoolean}
use Rattle.spec_decoding.specs.Decoding.{Complete, Decoding, Failed}
use Rattle.spec_avro.specs.Defect.{Malformed, Need}

-- the boolean at the front of bytes that begin at an offset
abbrev pub boolean_of : ℕ → Meter → List ℕ → Decoding Bool
boolean_of at m [] = Failed Need
boolean_of at m (byte ∷ rest) =
    if byte == 0 then Complete false (at + 1) m
    else if byte == 1 then Complete true (at + 1) m
    else Failed (Malformed BadBoolean at)

-- the boolean at an offset
unfoldable pub boolean_at : List ℕ → ℕ → Meter → Decoding Bool
boolean_at bytes at m = boolean_of at m (drop at bytes)
