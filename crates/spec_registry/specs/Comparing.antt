-- Which versions are compared (Confluent Schema Registry, "Compatibility types"), and who reads whom.
use Rattle.std.specs.Prelude.{List, [], ◌∷◌, Bool, if◌then◌else◌}

abbrev pub last_of : {A : Type 0} → List A → List A
last_of [] = []
last_of (x ∷ []) = x ∷ []
last_of (x ∷ y ∷ ys) = last_of (y ∷ ys)

-- the latest version, or all of them
abbrev pub compared : {A : Type 0} → Bool → List A → List A
compared is_transitive versions = if is_transitive then versions else last_of versions
