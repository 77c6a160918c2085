-- What accepted commands make of a registry (Confluent Schema Registry API, "Subjects", "Config").
use Rattle.std.specs.Prelude.{ℕ, ◌+◌, List, [], ◌∷◌, ◌++◌, length, is_some, unwrap_or, if◌then◌else◌, Result, Ok, Err}
use Rattle.std.specs.Option.{option_map_or}
use Rattle.serde_json.specs.Read.{read}
use Rattle.serde_json.specs.Written.{compact_text}
use Rattle.spec_schema.specs.declared.schema_error.SchemaError.{SchemaError}
use Rattle.spec_avro.specs.Node.{Node}
use Rattle.spec_schema.specs.Schema.{Declaration, schema_of}
use Rattle.spec_registry.specs.Command.{Command, RegisterCommand, SetLevelCommand, LookupCommand, CheckCommand, VersionsCommand, VersionCommand, SubjectsCommand, SchemaCommand, LevelCommand}
use Rattle.spec_registry.specs.Lists.{Entry, Lists, id_of, no_lists, versions_of, with_text}

-- the compact text of a JSON text: it is what answers show (our own rule)
abbrev pub compacted : List ℕ → List ℕ
compacted text = option_map_or compact_text (read text) []

abbrev pub declared_as : List ℕ → Result (List Node) SchemaError → Result Declaration SchemaError
declared_as text (Ok nodes) = Ok (record { text = compacted text; nodes = nodes })
declared_as text (Err e) = Err e

-- the schema that a text declares, with its compact text, or the text's first fault
abbrev pub declaration_of : List ℕ → Result Declaration SchemaError
declaration_of text = declared_as text (schema_of text)

-- the id that a schema has, or the next one
abbrev pub id_for : Declaration → List Declaration → ℕ
id_for schema schemas = unwrap_or (id_of schema.text schemas) (length schemas + 1)

-- a schema gets an id once, over all subjects
abbrev pub with_schema : Declaration → List Declaration → List Declaration
with_schema schema schemas = if is_some (id_of schema.text schemas) then schemas else schemas ++ schema ∷ []

-- the next version of a subject
abbrev pub next_version : List ℕ → ℕ → List Entry → Entry
next_version subject id entries =
    record { subject = subject; version = length (versions_of subject entries) + 1; id = id }

abbrev pub with_version : Lists → List ℕ → Declaration → Lists
with_version lists subject schema = record lists {
  schemas = with_schema schema lists.schemas;
  entries = lists.entries ++ next_version subject (id_for schema lists.schemas) lists.entries ∷ [];
}

-- a subject gets a version of a schema once
abbrev pub registered : Lists → List ℕ → Result Declaration SchemaError → Lists
registered lists subject (Ok schema) =
    if is_some (with_text schema.text lists.schemas (versions_of subject lists.entries)) then lists
    else with_version lists subject schema
registered lists subject (Err e) = lists

-- what a command makes of the lists; all but two only ask
abbrev pub taken : Lists → Command → Lists
taken lists (RegisterCommand subject text) = registered lists subject (declaration_of text)
taken lists (SetLevelCommand subject level) = record lists { levels = (subject, level) ∷ lists.levels }
taken lists (LookupCommand subject text) = lists
taken lists (CheckCommand subject version text) = lists
taken lists (VersionsCommand subject) = lists
taken lists (VersionCommand subject version) = lists
taken lists SubjectsCommand = lists
taken lists (SchemaCommand id) = lists
taken lists (LevelCommand subject) = lists

abbrev pub taken_all : Lists → List Command → Lists
taken_all lists [] = lists
taken_all lists (c ∷ cs) = taken_all (taken lists c) cs

-- what a registry holds after these commands were accepted, in their order
abbrev pub registry_after : List Command → Lists
registry_after commands = taken_all no_lists commands
