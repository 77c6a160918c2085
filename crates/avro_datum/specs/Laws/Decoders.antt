-- What the laws say of a decoder of the parts of a node.
use Rattle.std.proofs.Common.{◌≡◌, ◌≢◌, ℕ, suc, ◌+◌, ◌-◌, ◌≤◌, List, ◌++◌, length, drop}
use Rattle.spec_avro.specs.declared.meter.Meter.{Meter}
use Rattle.spec_avro.specs.Meter.{Counts}
use Rattle.spec_avro.specs.Node.{Node}
use Rattle.spec_avro.specs.Datum.{Datum}
use Rattle.avro_datum.specs.Decoding.{Decoder}
use Rattle.spec_avro.specs.FaultyDatum.{FaultyDatum}
use Rattle.spec_avro.specs.Spelling.{Spells, depth_of, units_of}
use Rattle.spec_decoding.specs.Decoding.{Complete, Failed}
use Rattle.avro_bytes.specs.Decoding.{Stands}
use Rattle.spec_avro.specs.Defect.{Defect, Need}
use Rattle.avro_bytes.specs.Fault.{HasDefect, failing}
use Rattle.spec_avro.specs.declared.limits.TheConstants.{MOST_DEPTH}

-- what a decoder gives is spelled, where `left` more records, arrays and maps may be opened
abbrev pub IsSound : List Node → List ℕ → Decoder → ℕ → Type 0
IsSound nodes all decoder left = (node at : ℕ) (m : Meter) (d : Datum) (to : ℕ) (after : Meter) → left ≡ MOST_DEPTH - m.depth → decoder node at m ≡ Complete d to after → Stands (Spells nodes node d) all at to × Counts (depth_of d) (units_of d) m after

-- what is spelled is what a decoder gives
abbrev pub IsComplete : List Node → List ℕ → Decoder → ℕ → Type 0
IsComplete nodes all decoder left = (node : ℕ) (d : Datum) (before bytes rest : List ℕ) (m after : Meter) → left ≡ MOST_DEPTH - m.depth → all ≡ before ++ (bytes ++ rest) → Spells nodes node d bytes → Counts (depth_of d) (units_of d) m after → decoder node (length before) m ≡ Complete d (length before + length bytes) after

-- what a decoder has decided, another decides on more bytes
abbrev pub IsSteady : List ℕ → Decoder → Decoder → ℕ → Type 0
IsSteady all decoder further left = (node at : ℕ) (m : Meter) → left ≡ MOST_DEPTH - m.depth → at ≤ length all → decoder node at m ≢ Failed Need → further node at m ≡ decoder node at m

-- the fault that a decoder reports is there
abbrev pub HasFault : List Node → List ℕ → Decoder → ℕ → Type 0
HasFault nodes all decoder left = (node at : ℕ) (m : Meter) → left ≡ MOST_DEPTH - m.depth → HasDefect (decoder node at m) at (FaultyDatum nodes node (drop at all) m)

-- the fault that is there is reported
abbrev pub TellsFault : List Node → List ℕ → Decoder → ℕ → Type 0
TellsFault nodes all decoder left = (node : ℕ) (before bytes : List ℕ) (m : Meter) (d : Defect) → left ≡ MOST_DEPTH - m.depth → all ≡ before ++ bytes → FaultyDatum nodes node bytes m d → decoder node (length before) m ≡ failing (length before) d

-- where one may be opened, inside it
abbrev pub Deeper : (ℕ → Type 0) → ℕ → Type 0
Deeper P left = (less : ℕ) → left ≡ suc less → P less
