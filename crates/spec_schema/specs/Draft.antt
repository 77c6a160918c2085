-- What a node is before the defaults of its fields have been read. This project's own.
use Rattle.std.specs.Prelude.{ℕ, List, Option}
use Rattle.serde_json.specs.Data.{Data}
use Rattle.spec_avro.specs.Node.{Node, Names}

-- a field, and the value at its `default`
pub record DraftField : Type 0 where
  pub name : List ℕ
  pub aliases : List (List ℕ)
  pub node : ℕ
  pub default : Option Data

abbrev pub draft_field : List ℕ → List (List ℕ) → ℕ → Option Data → DraftField
draft_field s aliases n default = record { name = s; aliases = aliases; node = n; default = default }

pub data Draft : Type 0 where
  Whole : Node → Draft
  RecordDraft : Names → List DraftField → Draft
