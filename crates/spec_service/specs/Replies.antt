-- The JSON of replies and faults (Confluent Schema Registry API; which keys a reply has is this project's own).
use Rattle.std.specs.Prelude.{ℕ, Bool, List, codes, map}
use Rattle.serde_json.specs.Data.{Data, boolean, number, unsigned, string, array, object, member, no_members}
use Rattle.serde_json.specs.View.{items_of}
use Rattle.spec_service.specs.Fault.{code_of, message_of}
use Rattle.spec_service.specs.declared.fault.Fault.{Fault}

-- a JSON number without a fraction
abbrev pub whole : ℕ → Data
whole n = number (unsigned n)

abbrev pub fault_data : Fault → Data
fault_data fault = object (
    member (codes "error_code") (whole (code_of fault)) (
    member (codes "message") (string (message_of fault)) no_members))

abbrev pub id_data : ℕ → Data
id_data id = object (member (codes "id") (whole id) no_members)

abbrev pub schema_data : List ℕ → Data
schema_data text = object (member (codes "schema") (string text) no_members)

-- a version of a subject: the id of its schema and the compact text, the subject and the version
abbrev pub entry_data : ℕ → List ℕ → List ℕ → ℕ → Data
entry_data id text subject version = object (
    member (codes "id") (whole id) (
    member (codes "schema") (string text) (
    member (codes "subject") (string subject) (
    member (codes "version") (whole version) no_members))))

abbrev pub compatibility_data : Bool → Data
compatibility_data is_compatible = object (member (codes "is_compatible") (boolean is_compatible) no_members)

-- a level that was asked for
abbrev pub level_data : List ℕ → Data
level_data name = object (member (codes "compatibilityLevel") (string name) no_members)

-- a level that was set
abbrev pub new_level_data : List ℕ → Data
new_level_data name = object (member (codes "compatibility") (string name) no_members)

abbrev pub names_data : List (List ℕ) → Data
names_data names = array (items_of (map string names))

abbrev pub numbers_data : List ℕ → Data
numbers_data numbers = array (items_of (map whole numbers))
