-- The places of fields' names.
use Rattle.std.proofs.Common.{◌≡◌, ℕ, ◌+◌, cond, List, [], ◌∷◌, Some, position, refl, ap, ◌∙◌}
use Rattle.std.specs.List.{position_from}
use Rattle.std.specs.Str.{bytes_eq}
use Rattle.std.proofs.lemmas.Iterator.Adapters.{position_from-zero}
use Rattle.avro_types.specs.declared.kind.Field.{Field}
use Rattle.avro_types.specs.Node.{fields_of}
use Rattle.spec_avro.specs.Symbols.{place_of}
use Rattle.spec_avro.specs.Partners.{field_names}
use Rattle.resolver.specs.Partners.{is_named}

from_place : (name : List ℕ) (i : ℕ) (fs : List Field) → position_from (is_named name) i fs ≡ position_from (λ other. bytes_eq other name) i (field_names (fields_of fs))
from_place name i [] = refl
from_place name i (f ∷ fs) = ap (cond (is_named name f) (Some i)) (from_place name (i + 1) fs)

pub scanned : (name : List ℕ) (fs : List Field) → position (is_named name) fs ≡ place_of name (field_names (fields_of fs))
scanned name fs = position_from-zero (is_named name) fs ∙ from_place name 0 fs
