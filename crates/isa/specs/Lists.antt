-- Lists that lie in one piece of memory. This project's own.
use Rattle.std.specs.Prelude.{ℕ, ◌-◌, ◌≤◌, List, length, map, take, drop}
use Rattle.std.specs.List.{AllByRecursion}
use Rattle.isa.specs.declared.lists.Stretch.{Stretch}

-- the items of a stretch
abbrev pub items_of : {A : Type 0} → List A → Stretch → List A
items_of items s = take (s.to - s.from) (drop s.from items)

abbrev pub lists_in : {A : Type 0} → List A → List Stretch → List (List A)
lists_in items stretches = map (items_of items) stretches

-- a stretch lies among the items
pub record IsWithin (len : ℕ) (s : Stretch) : Type 0 where
  pub order : s.from ≤ s.to
  pub below : s.to ≤ len

abbrev pub AreWithin : {A : Type 0} → List A → List Stretch → Type 0
AreWithin items stretches = AllByRecursion (IsWithin (length items)) stretches
