-- What is kept of pairs of enums and of defaults that came before. This project's own.
use Rattle.std.specs.Prelude.{◌≡◌, ℕ, true, List, map, slice_get, Some}
use Rattle.std.specs.BTreeMap.{BTreeMap, get}
use Rattle.std.specs.BTreeSet.{BTreeSet, contains}
use Rattle.std.specs.List.{AllByRecursion}
use Rattle.std.specs.Str.{bytes_eq}
use Rattle.spec_avro.specs.declared.mismatch.Mismatch.{Mismatch}
use Rattle.spec_avro.specs.Node.{Node}
use Rattle.spec_machine.specs.declared.entry.Entry.{Entry}
use Rattle.spec_machine.specs.Numbering.{entry_of, has, lacked, same_miss}
use Rattle.program_ir.specs.Tables.{found}
use Rattle.program_ir.specs.declared.statements.Constant.TheVariants.{Default}
use Rattle.program_ir.specs.Statements.{bytes_of, targets_of}
use Rattle.program_ir.specs.Sections.{pair_cmp}

-- under a pair of enums is the number of a map that has its entries
abbrev pub AreShared : List Node → List Node → List Mismatch → BTreeMap (ℕ × ℕ) ℕ → List (List Entry) → Type 0
AreShared W R misses numbers maps = (pair : ℕ × ℕ) (n : ℕ) → get pair_cmp numbers pair ≡ Some n
    → slice_get maps n ≡ Some (map (entry_of misses) (targets_of W R pair.0 pair.1))

-- of each of these pairs of enums all misses are there
abbrev pub AreNoted : List Node → List Node → BTreeSet (ℕ × ℕ) → List Mismatch → Type 0
AreNoted W R pairs misses = (pair : ℕ × ℕ) → contains pair_cmp pairs pair ≡ true
    → AllByRecursion (λ m. has same_miss m misses ≡ true) (lacked (targets_of W R pair.0 pair.1))

-- under a reader's record and a field of it is the number of the field's default
abbrev pub AreDefaults : List Node → BTreeMap (ℕ × ℕ) ℕ → List (List ℕ) → Type 0
AreDefaults R defaults constants = (field : ℕ × ℕ) (n : ℕ) → get pair_cmp defaults field ≡ Some n
    → found bytes_eq (bytes_of R (Default field.0 field.1)) constants ≡ Some n
