-- The payload of a line. This project's own.
use Rattle.std.specs.Prelude.{ℕ, ◌&&◌, Bool, nat_le, if◌then◌else◌, List, Option, None}
use Rattle.std.specs.List.{list_any}
use Rattle.std.specs.Result.{result_ok}
use Rattle.hex.specs.Hex.{decode_of}

-- the byte is one of `A` to `Z`
abbrev pub is_upper : ℕ → Bool
is_upper byte = nat_le 65 byte && nat_le byte 90

-- the bytes that the line spells, each as two hexadecimal digits in lower case, or None where it spells none
abbrev pub payload_of : List ℕ → Option (List ℕ)
payload_of line = if list_any is_upper line then None else result_ok (decode_of line)
