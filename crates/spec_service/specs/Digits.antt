-- Decimal numbers of any length, by their value.
use Rattle.std.specs.Prelude.{ℕ, ◌+◌, ◌-◌, ◌*◌, ◌&&◌, ◌==◌, nat_lt, Bool, List, [], ◌∷◌, length, if◌then◌else◌}
use Rattle.std.specs.List.{list_all}
use Rattle.std.specs.Char.{is_ascii_digit}

-- one number: digits, and at least one (RFC 9110, section 8.6)
abbrev pub is_number : List ℕ → Bool
is_number text = nat_lt 0 (length text) && list_all is_ascii_digit text

-- the digits from the first that is no zero
abbrev pub significant_digits : List ℕ → List ℕ
significant_digits [] = []
significant_digits (d ∷ ds) = if d == 48 then significant_digits ds else d ∷ ds

-- the number that these digits spell after those of n
abbrev pub number_after : ℕ → List ℕ → ℕ
number_after n [] = n
number_after n (d ∷ ds) = number_after (n * 10 + (d - 48)) ds

-- the number that digits spell
abbrev pub number : List ℕ → ℕ
number digits = number_after 0 digits
