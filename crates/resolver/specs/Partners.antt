-- Partners and routes as the code has them. This project's own.
use Rattle.std.specs.Prelude.{ℕ, ◌<◌, Bool, List, IfSome, string_bytes}
use Rattle.std.specs.List.{AllByRecursion}
use Rattle.std.specs.Str.{bytes_eq}
use Rattle.avro_types.specs.declared.kind.Field.{Field}
use Rattle.spec_avro.specs.declared.place.Route.{Route}

-- for a private clause: a field of that name
abbrev pub is_named : List ℕ → Field → Bool
is_named name f = bytes_eq (string_bytes f.name) name

-- its nodes are nodes of both schemas, and its partner, if it has one, is one of `places` fields of the reader's
pub record IsRoute (writers readers places : ℕ) (r : Route) : Type 0 where
  pub node : r.node < writers
  pub partner : IfSome r.partner (λ p. (p.position < places) × (p.node < readers))

abbrev pub AreRoutes : (writers readers places : ℕ) → List Route → Type 0
AreRoutes writers readers places rs = AllByRecursion (IsRoute writers readers places) rs
