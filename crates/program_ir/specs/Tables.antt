-- Things in a row, each once, and where each is found. All of this is this project's own.
use Rattle.std.specs.Prelude.{◌≡◌, ℕ, Bool, List, Option, Some, None, if◌then◌else◌}
use Rattle.std.specs.declared.cmp.Ordering.{Ordering}
use Rattle.std.specs.Ordering.{nat_cmp, ordering_then}
use Rattle.std.specs.Cmp.Lexicographic.{slice_cmp}
use Rattle.std.specs.BTreeMap.{get}
use Rattle.std.specs.Global.{Vec}
use Rattle.std.specs.Str.{bytes_eq}
use Rattle.spec_machine.specs.declared.entry.Entry.{Entry}
use Rattle.spec_machine.specs.declared.entry.Entry.TheVariants as entries
use Rattle.spec_avro.specs.Options.{given}
use Rattle.spec_avro.specs.MismatchKind.{code_of as code_of_kind}
use Rattle.spec_avro.specs.declared.mismatch.Mismatch.{Mismatch}
use Rattle.spec_machine.specs.Numbering.{has, number, same_miss}
use Rattle.program_ir.specs.declared.constants.Constants.TheInside as constants
use Rattle.program_ir.specs.declared.misses.Misses.TheInside as misses

-- the number of a thing that is there
abbrev pub found : {A : Type 0} → (A → A → Bool) → A → List A → Option ℕ
found same a xs = if has same a xs then Some (number same a xs) else None

-- how a miss is looked up, and the order of such keys
abbrev pub key_of : Mismatch → ℕ × ℕ × ℕ
key_of m = (code_of_kind m.kind, m.writer_node, m.reader_node)

abbrev pub key_cmp : ℕ × ℕ × ℕ → ℕ × ℕ × ℕ → Ordering
key_cmp p q = ordering_then (ordering_then (nat_cmp p.0 q.0) (nat_cmp p.1 q.1)) (nat_cmp p.2 q.2)

-- the order of constants
abbrev pub bytes_cmp : Vec ℕ → Vec ℕ → Ordering
bytes_cmp a b = slice_cmp nat_cmp a.items b.items

-- under its key is the number of each
abbrev pub AreMisses : misses.Inside → Type 0
AreMisses s = (m : Mismatch) → get key_cmp s.numbers (key_of m) ≡ found same_miss m s.list.items

abbrev pub AreConstants : constants.Inside → Type 0
AreConstants s = (v : Vec ℕ) → get bytes_cmp s.numbers v ≡ found bytes_eq v.items s.list

-- what a symbol becomes: the position, or else the miss with the index `lacking`
abbrev pub entry_at : ℕ → Option ℕ → Entry
entry_at lacking position = given position (entries.Miss lacking) entries.Position
