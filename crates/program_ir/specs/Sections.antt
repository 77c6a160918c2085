-- Sections in a row, and where each is found. This project's own.
use Rattle.std.specs.Prelude.{◌≡◌, ℕ, suc, List, [], ◌∷◌, map, Option, Some, None, if◌then◌else◌}
use Rattle.std.specs.declared.cmp.Ordering.{Ordering}
use Rattle.std.specs.Ordering.{nat_cmp, ordering_then}
use Rattle.std.specs.BTreeMap.{get}
use Rattle.spec_machine.specs.Statements.{Section, Main, Write, Skip}
use Rattle.spec_machine.specs.Numbering.{same_section}
use Rattle.program_ir.specs.declared.statements.Section as rust
use Rattle.program_ir.specs.declared.sections.Sections.TheInside.{Inside}
use Rattle.program_ir.specs.Statements.{section_of}

abbrev pub sections_in : List rust.Section → List Section
sections_in ss = map section_of ss

-- the index of a section's first occurrence, counted from n
abbrev pub place_from : ℕ → Section → List Section → Option ℕ
place_from n s [] = None
place_from n s (x ∷ xs) = if same_section s x then Some n else place_from (suc n) s xs

abbrev pub place : Section → List Section → Option ℕ
place s ss = place_from 0 s ss

-- the order of pairs
abbrev pub pair_cmp : ℕ × ℕ → ℕ × ℕ → Ordering
pair_cmp p q = ordering_then (nat_cmp p.0 q.0) (nat_cmp p.1 q.1)

-- the main section is the first, and under the nodes of the others are their indices
pub record AreNumbered (s : Inside) : Type 0 where
  pub main : place Main (sections_in s.list.items) ≡ Some 0
  pub writes : (p : ℕ × ℕ) → get pair_cmp s.writes p ≡ place (Write p.0 p.1) (sections_in s.list.items)
  pub skips : (w : ℕ) → get nat_cmp s.skips w ≡ place (Skip w) (sections_in s.list.items)
