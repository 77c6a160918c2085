-- What is kept of the members of a JSON object. This project's own.
use Rattle.std.specs.Prelude.{◌≡◌, List, ℕ, Option, codes, false, option_map, string_bytes}
use Rattle.serde_json.specs.Data.{Data, null, boolean, number, string, array, object, no_items, item}
use Rattle.serde_json.specs.Find.{get}
use Rattle.gateway_bodies.specs.declared.kept.Kept as rust
use Rattle.gateway_bodies.specs.declared.kept.Kept.TheVariants as values
use Rattle.gateway_bodies.specs.declared.members.Members.{Members}

-- null, a text and an array without items are kept as they are; `false` is kept in place of any other value
abbrev pub kept : Data → Data
kept null = null
kept (boolean b) = boolean false
kept (number n) = boolean false
kept (string s) = string s
kept (array no_items) = array no_items
kept (array (item d ds)) = boolean false
kept (object ms) = boolean false

-- the value that was kept
abbrev pub data_of : rust.Kept → Data
data_of values.Null = null
data_of (values.Text text) = string (string_bytes text)
data_of values.NoItems = array no_items
data_of values.Other = boolean false

-- what was kept of the value of a key
abbrev pub IsMember : List ℕ → Data → Option rust.Kept → Type 0
IsMember key d value = option_map data_of value ≡ option_map kept (get key d)

-- what was kept of the members of a value
pub record AreMembersOf (d : Data) (found : Members) : Type 0 where
  pub schema : IsMember (codes "schema") d found.schema
  pub schema_type : IsMember (codes "schemaType") d found.schema_type
  pub references : IsMember (codes "references") d found.references
  pub compatibility : IsMember (codes "compatibility") d found.compatibility
