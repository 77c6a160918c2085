-- What the content of an answer says (Confluent Schema Registry API; that null counts as an absent key is this
-- project's own).
use Rattle.std.specs.Prelude.{ℕ, ◌||◌, Bool, true, false, List, Option, Some, None, Result, Ok, Err, codes, if◌then◌else◌, is_some, option_and_then}
use Rattle.std.specs.Option.{ok_or}
use Rattle.std.specs.Str.{bytes_eq, is_utf8}
use Rattle.serde_json.specs.Data.{Data, null, boolean, number, string, array, object, Items, item, no_items}
use Rattle.serde_json.specs.Find.{as_array, as_null, as_object, as_str, get}
use Rattle.serde_json.specs.Read.{read}
use Rattle.spec_service.specs.declared.upstream_content.ContentFault.{ContentFault}
use Rattle.spec_service.specs.declared.upstream_content.ContentFault.TheVariants as faults

-- ---- steps in a row

infixl 10 ◌>>=◌
-- one step, and then another on what it gave; or the fault of the first
abbrev pub ◌>>=◌ : {A B : Type 0} → Result A ContentFault → (A → Result B ContentFault) → Result B ContentFault
Ok x >>= f = f x
Err e >>= f = Err e

-- ---- a JSON object

-- the bytes, where they are UTF-8
abbrev pub as_text : List ℕ → Result (List ℕ) ContentFault
as_text content = if is_utf8 content then Ok content else Err faults.NoJson

-- the value, where it is an object
abbrev pub as_members : Data → Result Data ContentFault
as_members value = if is_some (as_object value) then Ok value else Err faults.NoJson

-- the JSON object that the bytes spell
abbrev pub object_of : List ℕ → Result Data ContentFault
object_of content = as_text content >>= (λ text. ok_or (read text) faults.NoJson >>= as_members)

-- ---- the text of a schema

-- the type of the schema, where there is one, is Avro
abbrev pub is_avro : Option Data → Bool
is_avro None = true
is_avro (Some null) = true
is_avro (Some (boolean b)) = false
is_avro (Some (number n)) = false
is_avro (Some (string s)) = bytes_eq s (codes "AVRO")
is_avro (Some (array ds)) = false
is_avro (Some (object ms)) = false

-- an array without items
abbrev pub is_empty_array : Option Items → Bool
is_empty_array None = false
is_empty_array (Some no_items) = true
is_empty_array (Some (item d ds)) = false

-- there are no references
abbrev pub has_no_references : Option Data → Bool
has_no_references None = true
has_no_references (Some d) = is_some (as_null d) || is_empty_array (as_array d)

-- the text of the schema in an object, or the first fault
abbrev pub schema_of : Data → Result (List ℕ) ContentFault
schema_of d =
    if is_avro (get (codes "schemaType") d) then
    (if has_no_references (get (codes "references") d)
    then ok_or (option_and_then as_str (get (codes "schema") d)) faults.NoSchema
    else Err faults.HasReferences)
    else Err faults.NotAvro

-- the text of the schema in a content, or the first fault
abbrev pub schema_text : List ℕ → Result (List ℕ) ContentFault
schema_text content = object_of content >>= schema_of
