-- The line of an outcome. This project's own.
use Rattle.std.specs.Prelude.{ℕ, List, [], ◌∷◌, ◌++◌, codes}
use Rattle.std.specs.Fmt.{decimal}
use Rattle.hex.specs.Hex.{encode_lower}
use Rattle.spec_avro.specs.MalformedKind as malformed
use Rattle.spec_avro.specs.MismatchKind as mismatch
use Rattle.spec_avro.specs.Outcome.{Outcome, Done, Mismatched, Malformed, OutputTooLarge}

-- bytes in hexadecimal, in lower case, and `-` for none
abbrev pub hex_of : List ℕ → List ℕ
hex_of [] = codes "-"
hex_of (byte ∷ rest) = encode_lower (byte ∷ rest)

-- the line of an outcome, without its LF
abbrev pub line_of : Outcome → List ℕ
line_of (Done bytes) = codes "done " ++ hex_of bytes
line_of (Mismatched m) =
    codes "mismatch " ++ mismatch.name_of m.kind
    ++ codes " " ++ decimal m.writer_node ++ codes " " ++ decimal m.reader_node
line_of (Malformed kind at) = codes "malformed " ++ malformed.name_of kind ++ codes " at " ++ decimal at
line_of OutputTooLarge = codes "output too large"
