-- The parameters in a path (Confluent Schema Registry API; that numbers go by their value, with zeros before them, and
-- that a text that spells no id is the id of no schema, is this project's own).
use Rattle.std.specs.Prelude.{ℕ, ◌^◌, ◌&&◌, List, nat_le, nat_lt, Result, Ok, Err, codes, if◌then◌else◌}
use Rattle.std.specs.Str.{bytes_eq}
use Rattle.spec_service.specs.Digits.{is_number, number}
use Rattle.spec_registry.specs.declared.version.Version.{Version}
use Rattle.spec_registry.specs.declared.version.Version.TheVariants.{Latest, Number}
use Rattle.spec_registry.specs.declared.limits.TheConstants.{MOST_VERSION}
use Rattle.spec_registry.specs.Subject.{is_subject}
use Rattle.spec_service.specs.declared.fault.Fault.{Fault}
use Rattle.spec_service.specs.declared.fault.Fault.TheVariants.{BadSubject, BadVersion, NoSchema}

abbrev pub subject_of : List ℕ → Result (List ℕ) Fault
subject_of text = if is_subject text then Ok text else Err BadSubject

-- a version by its number
abbrev pub version_numbered : List ℕ → Result Version Fault
version_numbered text =
    if is_number text && nat_le 1 (number text) && nat_le (number text) MOST_VERSION
    then Ok (Number (number text)) else Err BadVersion

abbrev pub version_of : List ℕ → Result Version Fault
version_of text = if bytes_eq text (codes "latest") then Ok Latest else version_numbered text

abbrev pub id_of : List ℕ → Result ℕ Fault
id_of text = if is_number text && nat_lt (number text) (2 ^ 32) then Ok (number text) else Err NoSchema
