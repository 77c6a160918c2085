-- The names that attributes give (Avro 1.11, "Names").
use Rattle.std.specs.Prelude.{ℕ, ◌&&◌, List, [], not, if◌then◌else◌, Option, Some, None, is_none, option_and_then, Result, Ok}
use Rattle.std.specs.Option.{ok_or}
use Rattle.serde_json.specs.Data.{Data}
use Rattle.serde_json.specs.Find.{as_str}
use Rattle.spec_schema.specs.declared.schema_error.SchemaError.{SchemaError}
use Rattle.spec_schema.specs.declared.schema_error.SchemaError.TheVariants.{Unknown, BadName, Redefined}
use Rattle.spec_schema.specs.Steps.{◌>>=◌, require}
use Rattle.spec_avro.specs.FullNames.{is_name, has_dot, is_full_name, unqualified, full_name}
use Rattle.spec_schema.specs.Head.{Head, defined_at}
use Rattle.spec_avro.specs.Symbols.{is_used}
use Rattle.spec_schema.specs.Word.{word_of, is_primitive}

abbrev pub null_namespace : List ℕ
null_namespace = []

abbrev pub text_of : Option Data → Result (List ℕ) SchemaError
text_of value = ok_or (option_and_then as_str value) Unknown

-- the namespace that the attribute gives, or else the enclosing one
abbrev pub given_namespace : Option Data → List ℕ → Result (List ℕ) SchemaError
given_namespace None enclosing = Ok enclosing
given_namespace (Some d) enclosing = text_of (Some d)

-- the namespace in which a name is; with a dot it is a full name, and the attribute does not count
abbrev pub own_namespace : List ℕ → Option Data → List ℕ → Result (List ℕ) SchemaError
own_namespace s namespace enclosing = if has_dot s then Ok enclosing else given_namespace namespace enclosing

-- a full name by the rule, no primitive type's, and not defined before
abbrev pub if_new : List ℕ → List Head → Result (List ℕ) SchemaError
if_new full heads = do
  _ ← require (is_full_name full && not (is_primitive (word_of (unqualified full)))) BadName
  _ ← require (is_none (defined_at full heads)) Redefined
  Ok full

-- the full name that `name` and `namespace` define
unfoldable pub new_name : Option Data → Option Data → List ℕ → List Head → Result (List ℕ) SchemaError
new_name name namespace enclosing heads = do
  s ← text_of name
  own ← own_namespace s namespace enclosing
  if_new (full_name own s) heads

-- the name that a field's `name` gives, which is none of those before it
unfoldable pub field_name : Option Data → List (List ℕ) → Result (List ℕ) SchemaError
field_name name before = do
  s ← text_of name
  _ ← require (is_name s && not (is_used s before)) BadName
  Ok s
