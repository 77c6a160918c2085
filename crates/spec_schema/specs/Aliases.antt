-- The aliases that attributes give (Avro 1.11, "Aliases").
use Rattle.std.specs.Prelude.{ℕ, List, [], Option, Some, None, Result, Ok}
use Rattle.std.specs.List.{list_all}
use Rattle.serde_json.specs.Data.{Data}
use Rattle.spec_avro.specs.Aliases.{full_names}
use Rattle.spec_avro.specs.FullNames.{is_full_name, is_name, namespace_of}
use Rattle.spec_avro.specs.Node.{Names, names_of}
use Rattle.spec_schema.specs.declared.schema_error.SchemaError.{SchemaError}
use Rattle.spec_schema.specs.declared.schema_error.SchemaError.TheVariants.{BadName}
use Rattle.spec_schema.specs.Attributes.{texts_of}
use Rattle.spec_schema.specs.Steps.{◌>>=◌, require}
use Rattle.spec_schema.specs.Head.{Head}
use Rattle.spec_schema.specs.Names.{new_name}

-- "Named types and fields may have aliases": the texts that the attribute lists, where it is there
abbrev pub alias_texts : Option Data → Result (List (List ℕ)) SchemaError
alias_texts None = Ok []
alias_texts (Some d) = texts_of (Some d)

-- "A type alias may be specified either as a fully namespace-qualified, or relative to the namespace of the name it is
-- an alias for."
abbrev pub full_aliases : List ℕ → List (List ℕ) → List (List ℕ)
full_aliases full texts = full_names (namespace_of full) texts

-- full names, each by the rule for names
abbrev pub if_full_names : List (List ℕ) → Result (List (List ℕ)) SchemaError
if_full_names names = do
  _ ← require (list_all is_full_name names) BadName
  Ok names

-- a type's aliases as full names, each by the rule for names
unfoldable pub type_aliases : List ℕ → Option Data → Result (List (List ℕ)) SchemaError
type_aliases full aliases = do
  ss ← alias_texts aliases
  if_full_names (full_aliases full ss)

-- a field's aliases, each by the rule for names
unfoldable pub field_aliases : Option Data → Result (List (List ℕ)) SchemaError
field_aliases aliases = do
  ss ← alias_texts aliases
  _ ← require (list_all is_name ss) BadName
  Ok ss

-- the new name of a type, and its aliases
unfoldable pub new_names : Option Data → Option Data → Option Data → List ℕ → List Head → Result Names SchemaError
new_names name namespace aliases enclosing heads = do
  full ← new_name name namespace enclosing heads
  others ← type_aliases full aliases
  Ok (names_of full others)
