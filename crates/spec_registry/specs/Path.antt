-- The way from an id to what is kept for it in a table of ids. All of this is this project's own.
use Rattle.std.specs.Prelude.{◌≡◌, ℕ, ◌*◌, ◌/◌, ◌%◌, ◌^◌, List, Option, None, Some, IsSome}
use Rattle.std.specs.List.{slice_get}

-- a byte of an id, by how many bytes of the id come after it: 3 for the highest, 0 for the lowest
abbrev pub byte_of : ℕ → ℕ → ℕ
byte_of id after = id / 2 ^ (8 * after) % 256

-- a cell, by its name, with the row that it shows, once that was seen. A row is the list of the names of its cells
abbrev pub RowCell : Type 0
RowCell = ℕ × Option (List ℕ)

-- an id, and the four cells on the way to what is held for it: the cells that show the second, the third and the fourth
-- row, and the last cell, which shows the value
pub record Path (T : Type 0) : Type 0 where
  pub id : ℕ
  pub second : RowCell
  pub third : RowCell
  pub fourth : RowCell
  pub last : ℕ × Option T

-- a row was seen, and it has this cell at this index
abbrev pub IsInRow : Option (List ℕ) → ℕ → ℕ → Type 0
IsInRow None index cell = ⊥
IsInRow (Some row) index cell = slice_get row index ≡ Some cell

-- the cells are those of the id's bytes, from the first row on (`names`: the names of its cells), and a value was seen
pub record IsPathOf {T : Type 0} (names : List ℕ) (p : Path T) : Type 0 where
  pub first : slice_get names (byte_of p.id 3) ≡ Some p.second.0
  pub second : IsInRow p.second.1 (byte_of p.id 2) p.third.0
  pub third : IsInRow p.third.1 (byte_of p.id 1) p.fourth.0
  pub fourth : IsInRow p.fourth.1 (byte_of p.id 0) p.last.0
  pub last : IsSome p.last.1
