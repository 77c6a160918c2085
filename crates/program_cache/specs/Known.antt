-- The pairs that are known by their receipts. All of this is this project's own.
use Rattle.std.specs.Prelude.{◌≡◌, ◌<◌, ℕ, List, length, slice_index_or, IfSome}
use Rattle.boxcar.specs.Slot.{Named}
use Rattle.spec_registry.specs.Receipt.{IsReceiptOf, Shown}
use Rattle.program_cache.specs.declared.compiled.Compiled.{Compiled}
use Rattle.program_cache.specs.declared.cache.KnownPair.{KnownPair}
use Rattle.program_cache.specs.declared.cache.KnownPairs.{KnownPairs}
use Rattle.program_cache.specs.declared.cache.TheConstants.{KNOWN}
use Rattle.program_cache.specs.Compiled.{IsCompiled}

-- what the schemas of two receipts were compiled to
abbrev pub IsCompiledOf : Shown → Shown → Compiled → Type 0
IsCompiledOf writer reader compiled = IfSome writer.schema (λ w. IfSome reader.schema (λ r. IsCompiled w r compiled))

-- receipts of these cells were kept, beside what their schemas were compiled to
pub record IsKnownPair (names : List ℕ) (pair : KnownPair) : Type 0 where
  pub writer : IsReceiptOf names pair.writer
  pub reader : IsReceiptOf names pair.reader
  pub compiled : IsCompiledOf pair.writer pair.reader pair.compiled.value

-- each slot has this tag
abbrev pub AreTagged : List ℕ → List Named → Type 0
AreTagged tag slots = (j : ℕ) (d : Named) → j < length slots → (slice_index_or slots j d).tag ≡ tag

-- a table of pairs of receipts of these cells
abbrev pub IsTableOf : List ℕ → KnownPairs → Type 0
IsTableOf names table = (length table.slots.items ≡ KNOWN) × AreTagged names table.slots.items
