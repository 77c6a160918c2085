-- What the content of an answer says (Confluent Schema Registry API; that null counts as an absent key is this
-- project's own).
use Rattle.std.specs.Prelude.{◌≡◌, ◌≢◌, ℕ, ◌&&◌, ◌==◌, Bool, false, List, Option, Some, None, Result, Ok, Err, codes, if◌then◌else◌, length, nat_le, option_and_then}
use Rattle.std.specs.Str.{is_utf8}
use Rattle.serde_json.specs.Data.{Data}
use Rattle.serde_json.specs.Find.{as_number, as_u64, get}
use Rattle.serde_json.specs.Read.{read}
use Rattle.spec_service.specs.declared.upstream_content.ContentFault.{ContentFault}
use Rattle.spec_service.specs.declared.upstream_content.ContentFault.TheVariants as faults
use Rattle.spec_service.specs.declared.upstream_limits.TheConstants.{MOST_ERROR}

-- a call returned this result, unless memory ran out
abbrev pub Tells : {R A : Type 0} → (R → A) → Result R ContentFault → Result A ContentFault → Type 0
Tells view (Ok given) result = result ≡ Ok (view given)
Tells view (Err e) result = e ≢ faults.NoMemory → result ≡ Err e

-- ---- an error

-- the value that the bytes spell
abbrev pub value_in : List ℕ → Option Data
value_in content = if is_utf8 content then read content else None

-- the integer that is the error code of an object
abbrev pub error_code_of : Data → Option ℕ
error_code_of d = option_and_then as_u64 (option_and_then as_number (get (codes "error_code") d))

-- the error code is that of an id that names no schema
abbrev pub is_not_found : Option ℕ → Bool
is_not_found None = false
is_not_found (Some code) = code == 40403

-- a content that is not too long is an object with the error code of an id that names no schema
abbrev pub is_unknown : List ℕ → Bool
is_unknown content =
    nat_le (length content) MOST_ERROR && is_not_found (option_and_then error_code_of (value_in content))
