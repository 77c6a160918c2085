-- How many bytes the fields of a head say that the body has (RFC 9112, section 6). That a length may have any number of
-- leading zeros, that two fields of one value do not differ, and that any Transfer-Encoding is refused, is this
-- project's own.
use Rattle.std.specs.Prelude.{ℕ, List, [], ◌∷◌, codes, if◌then◌else◌, Option, Some, None, option_and_then, unwrap_or}
use Rattle.std.specs.Str.{bytes_eq, str_eq_ignore_ascii_case}
use Rattle.spec_service.specs.Digits.{is_number, significant_digits}

-- a length, and the one that was named before, if any: they have to be equal
abbrev pub agreed : Option (List ℕ) → List ℕ → Option (Option (List ℕ))
agreed None digits = Some (Some digits)
agreed (Some before) digits = if bytes_eq before digits then Some (Some before) else None

-- the length after the value of one more Content-Length
abbrev pub length_in : Option (List ℕ) → List ℕ → Option (Option (List ℕ))
length_in found value = if is_number value then agreed found (significant_digits value) else None

-- the length after one more field, a name and a value; none where the fields name no one length
abbrev pub length_after : Option (List ℕ) → List ℕ × List ℕ → Option (Option (List ℕ))
length_after found field =
    if str_eq_ignore_ascii_case field.0 (codes "transfer-encoding") then None
    else (if str_eq_ignore_ascii_case field.0 (codes "content-length") then length_in found field.1 else Some found)

-- the length's significant digits, after those that were found; where no field names one, it is 0
abbrev pub length_from : Option (List ℕ) → List (List ℕ × List ℕ) → Option (List ℕ)
length_from found [] = Some (unwrap_or found [])
length_from found (field ∷ fields) = option_and_then (λ f. length_from f fields) (length_after found field)

-- the significant digits of the one length that the fields name
abbrev pub declared_length : List (List ℕ × List ℕ) → Option (List ℕ)
declared_length fields = length_from None fields
