-- Receipts: what shows which schema an id has, in a registry that threads share. This project's own.
use Rattle.std.specs.Prelude.{◌≡◌, ◌≢◌, ℕ, ◌-◌, ◌<◌, List, Option, Some, IfSome, IsSome}
use Rattle.std.specs.List.{slice_get}
use Rattle.spec_schema.specs.Schema.{Declaration}

-- what a receipt represents: an id, the name of its cell, and the schema that the cell shows, once it was seen
pub record Shown : Type 0 where
  pub id : ℕ
  pub cell : ℕ
  pub schema : Option Declaration

-- a cell by its id, among the names of the cells in the order of their ids
abbrev pub IsCellOf : List ℕ → ℕ → ℕ → Type 0
IsCellOf names id name = (0 < id) × (slice_get names (id - 1) ≡ Some name)

-- a receipt of one of these cells, which represents a schema
abbrev pub IsReceiptOf : List ℕ → Shown → Type 0
IsReceiptOf names r = IsCellOf names r.id r.cell × IsSome r.schema

-- a receipt of one of these cells, whose schema has this text
abbrev pub ShowsText : List ℕ → List ℕ → Shown → Type 0
ShowsText names text r = IsReceiptOf names r × IfSome r.schema (λ s. s.text ≡ text)

-- a receipt of one of these cells, whose schema has another text
abbrev pub ShowsAnother : List ℕ → List ℕ → Shown → Type 0
ShowsAnother names text r = IsReceiptOf names r × IfSome r.schema (λ s. s.text ≢ text)
