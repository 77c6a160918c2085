-- Why the bytes at an offset give no value. This project's own.
use Rattle.std.specs.Prelude.{ℕ}
use Rattle.spec_avro.specs.declared.malformed.MalformedKind.{MalformedKind}

-- a fault and its offset, from wherever that is counted; or the bytes end inside a part that none of them has made
-- faulty
pub data Defect : Type 0 where
  Malformed : MalformedKind → ℕ → Defect
  Need : Defect
