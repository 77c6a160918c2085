-- The first fault where a block or the end of the blocks should begin (Avro 1.11, "Binary Encoding", arrays and maps).
-- This project's own rule: which of several faults is reported.
use Rattle.std.specs.Prelude.{◌≡◌, ◌⊎◌, ℕ, suc, List, ◌++◌, length, Option, ℤ, negsuc}
use Rattle.spec_avro.specs.declared.meter.Meter.{Meter}
use Rattle.spec_avro.specs.Blocks.{IsHead}
use Rattle.spec_avro.specs.Defect.{Defect}
use Rattle.spec_avro.specs.Fault.{FaultyNumber, shifted}
use Rattle.spec_avro.specs.Meter.{RefusesItem}
use Rattle.spec_avro.specs.Number.{IsNumber64, long_limit}

-- the bytes before the first item of a block, whatever size they say
abbrev pub BeginsBlock : List ℕ → Type 0
BeginsBlock head = (n : ℕ) × (said : Option ℤ) × IsHead (suc n) said head

-- a size that is no number, after a count below 0
pub record IsFaultySize (bytes : List ℕ) (d : Defect) : Type 0 where
  pub count : List ℕ
  pub rest : List ℕ
  pub n : ℕ
  pub inner : Defect
  pub parts : bytes ≡ count ++ rest
  pub number : IsNumber64 (negsuc n) count
  pub faulty : FaultyNumber long_limit rest inner
  pub place : d ≡ shifted (length count) inner

-- a first item of a block that is one too many
pub record IsRefusedFirst (bytes : List ℕ) (m : Meter) (d : Defect) : Type 0 where
  pub head : List ℕ
  pub rest : List ℕ
  pub inner : Defect
  pub parts : bytes ≡ head ++ rest
  pub begins : BeginsBlock head
  pub refused : RefusesItem m inner
  pub place : d ≡ shifted (length head) inner

abbrev pub FaultyHead : List ℕ → Meter → Defect → Type 0
FaultyHead bytes m d = FaultyNumber long_limit bytes d ⊎ (IsFaultySize bytes d ⊎ IsRefusedFirst bytes m d)
