-- What decoding a text at an offset gives (Avro 1.11, "Binary Encoding", string).
use Rattle.std.specs.Prelude.{ℕ, ◌-◌, List, length, if◌then◌else◌}
use Rattle.std.specs.Str.{is_utf8}
use Rattle.spec_avro.specs.declared.malformed.MalformedKind.TheVariants.{BadText}
use Rattle.spec_avro.specs.declared.meter.Meter.{Meter}
use Rattle.avro_bytes.specs.Blob.{content_at}
use Rattle.spec_decoding.specs.Decoding.{Complete, Decoding, Failed, ◌>>=◌}
use Rattle.spec_avro.specs.Defect.{Malformed}

-- a content, where it is UTF-8
abbrev pub utf8_only : List ℕ → ℕ → Meter → Decoding (List ℕ)
utf8_only content to m =
    if is_utf8 content then Complete content to m else Failed (Malformed BadText (to - length content))

-- the text at an offset
unfoldable pub text_at : List ℕ → ℕ → Meter → Decoding (List ℕ)
text_at bytes at m = content_at bytes at m >>= utf8_only
