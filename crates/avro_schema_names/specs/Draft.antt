-- What a node is before the defaults of its fields have been read.
use Rattle.std.specs.Prelude.{ℕ, ◌≤◌, List, length, map, Option, option_map, string_bytes}
use Rattle.std.specs.Borrow.{Bor}
use Rattle.std.specs.List.{AllByRecursion}
use Rattle.serde_json.specs.Data.{Data}
use Rattle.serde_json.specs.View.{view}
use Rattle.serde_json.specs.declared.value.Value.{Value}
use Rattle.spec_avro.specs.declared.limits.TheConstants.{MOST_SYMBOLS}
use Rattle.avro_schema_names.specs.declared.draft.Draft as rust
use Rattle.avro_schema_names.specs.declared.draft.Draft.TheVariants as drafts
use Rattle.avro_schema_names.specs.declared.draft.DraftField as rust_field
use Rattle.spec_avro.specs.Node.{EnumNode, names_of}
use Rattle.avro_types.specs.Node.{node_of}
use Rattle.spec_schema.specs.Draft.{DraftField, Draft, Whole, RecordDraft}

-- the value at an attribute, where there is one
abbrev pub data_at : Option (Bor Value) → Option Data
data_at o = option_map (λ v. view v.now) o

abbrev pub draft_field_of : rust_field.DraftField → DraftField
draft_field_of f =
    record {
      name = string_bytes f.name;
      aliases = map string_bytes f.aliases.items;
      node = f.node;
      default = data_at
          f.default;
    }

abbrev pub draft_of : rust.Draft → Draft
draft_of (drafts.Whole kind) = Whole (node_of kind)
draft_of (drafts.Record name aliases fields) = RecordDraft (names_of name aliases) (map draft_field_of fields.items)

abbrev pub drafts_of : List rust.Draft → List Draft
drafts_of ds = map draft_of ds

-- the names of fields
abbrev pub field_names : List DraftField → List (List ℕ)
field_names fs = map (λ f. f.name) fs

-- an enum's symbols are few enough to be numbered
abbrev pub HasFewSymbols : Draft → Type 0
HasFewSymbols (Whole (EnumNode names symbols default)) = length symbols ≤ MOST_SYMBOLS
HasFewSymbols _ = Unit {0}

abbrev pub HaveFewSymbols : List Draft → Type 0
HaveFewSymbols ds = AllByRecursion HasFewSymbols ds
