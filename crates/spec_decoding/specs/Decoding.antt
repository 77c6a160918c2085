-- What decoding the bytes at an offset gives: a value and where it ends, or why there is none. This project's own.
use Rattle.std.specs.Prelude.{ℕ, Result, Ok, Err}
use Rattle.spec_avro.specs.declared.meter.Meter.{Meter}
use Rattle.spec_decoding.specs.declared.fault.Fault.{Fault}
use Rattle.spec_decoding.specs.declared.fault.Fault.TheVariants as fault
use Rattle.spec_avro.specs.Defect.{Defect, Malformed, Need}

-- a value, with the offset after its spelling and the meter there; or why there is none, whose offset is counted from
-- the first byte
pub data Decoding (V : Type 0) : Type 0 where
  Complete : V → ℕ → Meter → Decoding V
  Failed : Defect → Decoding V

-- one part after another
infixl 10 ◌>>=◌
abbrev pub ◌>>=◌ : {A B : Type 0} → Decoding A → (A → ℕ → Meter → Decoding B) → Decoding B
(Complete v to m) >>= f = f v to m
(Failed d) >>= f = Failed d

-- the defect of a fault; where memory ran out there is none, and nothing is said
abbrev pub defect_of : Fault → Defect
defect_of (fault.Malformed kind at) = Malformed kind at
defect_of fault.Need = Need
defect_of fault.NoMemory = Need

-- inside what was opened, or why it was not
abbrev pub inside : {V : Type 0} → Result Meter Fault → (Meter → Decoding V) → Decoding V
inside (Ok m) f = f m
inside (Err e) f = Failed (defect_of e)
