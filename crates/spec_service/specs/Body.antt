-- What a body says (Confluent Schema Registry API; that null counts as an absent key is this project's own).
use Rattle.std.specs.Prelude.{ℕ, ◌&&◌, ◌||◌, Bool, true, false, List, Option, Some, None, Result, Ok, Err, codes, if◌then◌else◌, is_some, option_and_then}
use Rattle.std.specs.Option.{ok_or}
use Rattle.std.specs.Str.{bytes_eq, is_utf8}
use Rattle.serde_json.specs.Data.{Data, null, boolean, number, string, array, object, Items, item, no_items}
use Rattle.serde_json.specs.Find.{as_array, as_null, as_object, as_str, get}
use Rattle.serde_json.specs.Read.{read}
use Rattle.spec_registry.specs.declared.level.Level.{Level}
use Rattle.spec_registry.specs.Level.{level_named}
use Rattle.spec_service.specs.declared.fault.Fault.{Fault}
use Rattle.spec_service.specs.declared.fault.Fault.TheVariants as faults
use Rattle.spec_service.specs.Steps.{◌>>=◌}

-- ---- a JSON object

-- a body that is there in whole
abbrev pub whole_body : Option (List ℕ) → Result (List ℕ) Fault
whole_body body = ok_or body faults.BadRequest

-- the bytes, where they are UTF-8
abbrev pub as_text : List ℕ → Result (List ℕ) Fault
as_text body = if is_utf8 body then Ok body else Err faults.BadRequest

-- the value, where it is an object
abbrev pub as_members : Data → Result Data Fault
as_members value = if is_some (as_object value) then Ok value else Err faults.BadRequest

-- the JSON object that the bytes spell
abbrev pub object_of : List ℕ → Result Data Fault
object_of body = as_text body >>= (λ text. ok_or (read text) faults.BadRequest >>= as_members)

-- ---- the text of a schema

-- the type of the schema, where it is given, is Avro
abbrev pub is_avro : Option Data → Bool
is_avro None = true
is_avro (Some null) = true
is_avro (Some (boolean b)) = false
is_avro (Some (number n)) = false
is_avro (Some (string s)) = bytes_eq s (codes "AVRO")
is_avro (Some (array ds)) = false
is_avro (Some (object ms)) = false

-- an array without items
abbrev pub is_empty_array : Option Items → Bool
is_empty_array None = false
is_empty_array (Some no_items) = true
is_empty_array (Some (item d ds)) = false

-- there are no references
abbrev pub has_no_references : Option Data → Bool
has_no_references None = true
has_no_references (Some d) = is_some (as_null d) || is_empty_array (as_array d)

-- the text of a schema in an object
abbrev pub text_in : Data → Result (List ℕ) Fault
text_in d =
    if is_avro (get (codes "schemaType") d) && has_no_references (get (codes "references") d)
    then ok_or (option_and_then as_str (get (codes "schema") d)) faults.BadBody
    else Err faults.BadBody

-- the text of a schema in a body
abbrev pub text_of : Option (List ℕ) → Result (List ℕ) Fault
text_of body = whole_body body >>= (λ bytes. object_of bytes >>= text_in)

-- ---- a level

-- the level with a name
abbrev pub known_level : List ℕ → Result Level Fault
known_level name = ok_or (level_named name) faults.BadLevel

-- the level in an object
abbrev pub level_in : Data → Result Level Fault
level_in d = ok_or (option_and_then as_str (get (codes "compatibility") d)) faults.BadLevel >>= known_level

-- the level in a body
abbrev pub level_of : Option (List ℕ) → Result Level Fault
level_of body = whole_body body >>= (λ bytes. object_of bytes >>= level_in)
