-- What may be the name of a subject (this project's own rule), and the number of a version (Confluent Schema Registry
-- API, "Subjects").
use Rattle.std.specs.Prelude.{ℕ, ◌==◌, ◌&&◌, ◌||◌, nat_le, List, length, Bool, true}
use Rattle.std.specs.Char.{is_ascii_alphanumeric}
use Rattle.std.specs.List.{list_all}
use Rattle.spec_registry.specs.declared.limits.TheConstants.{LONGEST_SUBJECT, MOST_VERSION}
use Rattle.spec_registry.specs.declared.version.Version.{Version}
use Rattle.spec_registry.specs.declared.version.Version.TheVariants.{Latest, Number}

-- a letter or a digit of ASCII, a dot, an underscore or a hyphen
abbrev pub is_subject_byte : ℕ → Bool
is_subject_byte b = is_ascii_alphanumeric b || (b == 46) || (b == 95) || (b == 45)

abbrev pub is_subject : List ℕ → Bool
is_subject text = nat_le 1 (length text) && nat_le (length text) LONGEST_SUBJECT && list_all is_subject_byte text

-- the latest one, or a number from 1 to 2^31 - 1 (the rule of the API)
abbrev pub is_version : Version → Bool
is_version Latest = true
is_version (Number n) = nat_le 1 n && nat_le n MOST_VERSION
