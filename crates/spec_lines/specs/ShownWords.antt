-- The words of what a debugger shows, each after a space. All of this is this project's own.
use Rattle.std.specs.Prelude.{ℕ, ℤ, Bool, true, false, List, [], ◌∷◌, ◌++◌, codes, Option, Some, None}
use Rattle.std.specs.Fmt.{decimal, signed_decimal}
use Rattle.hex.specs.Hex.{encode_lower}
use Rattle.spec_decoding.specs.Walk.{Walk}
use Rattle.spec_machine.specs.State.{Content}

-- a number, in decimals
abbrev pub number : ℕ → List ℕ
number n = codes " " ++ decimal n

-- a number, and `-` for none
abbrev pub number_or_none : Option ℕ → List ℕ
number_or_none (Some n) = number n
number_or_none None = codes " -"

-- a number with its sign, and `-` for none
abbrev pub size_or_none : Option ℤ → List ℕ
size_or_none (Some n) = codes " " ++ signed_decimal n
size_or_none None = codes " -"

-- how many bytes of a content are still to move, and where its first byte is
abbrev pub moving_content : Option Content → List ℕ
moving_content (Some p) = number p.left ++ number p.from
moving_content None = codes " -"

abbrev pub truth : Bool → List ℕ
truth true = codes " 1"
truth false = codes " 0"

-- bytes in hexadecimal, in lower case, and `-` for none
abbrev pub bytes : List ℕ → List ℕ
bytes [] = codes " -"
bytes (byte ∷ rest) = codes " " ++ encode_lower (byte ∷ rest)

-- a walk over blocks: items to come, where the count and the items begin, and the size that is said
abbrev pub walk : Walk → List ℕ
walk w = number w.left ++ number w.count_at ++ number w.items_at ++ size_or_none w.size
