-- What a walk over the datum of a node answers, and what it keeps. All of this is this project's own.
use Rattle.std.specs.Prelude.{◌≡◌, ℕ, List, [], Result, Ok, Err}
use Rattle.spec_avro.specs.declared.meter.Meter.{Meter}
use Rattle.spec_decoding.specs.declared.fault.Fault.{Fault}
use Rattle.spec_decoding.specs.declared.fault.Fault.TheVariants as fault
use Rattle.spec_decoding.specs.Decoding.{Complete, Decoding, Failed}
use Rattle.avro_bytes.specs.Text.{text_at}
use Rattle.spec_avro.specs.Defect.{Malformed, Need}
use Rattle.spec_avro.specs.Datum.{Datum, RecordDatum}
use Rattle.avro_datum.specs.declared.parts.Parts.{Parts}
use Rattle.avro_datum.specs.declared.parts.Parts.TheVariants.{Fields, Items, Pairs}
use Rattle.avro_datum.specs.declared.parts.Gathered.{Gathered}
use Rattle.avro_datum.specs.declared.parts.Gathered.TheVariants as gathered
use Rattle.avro_datum.specs.Decoding.{Decoder, array_of, data_from, map_of, pair_at}
use Rattle.avro_datum.specs.ItemDecoding.{Reader}
use Rattle.avro_datum.specs.View.{each_datum, each_pair}

-- ---- what is answered

-- the decoding has failed with this fault; L, where memory ran out
abbrev pub Failing : {V : Type 0} → Type 0 → Fault → Decoding V → Type 0
Failing L fault.Need decoding = decoding ≡ Failed Need
Failing L (fault.Malformed kind at) decoding = decoding ≡ Failed (Malformed kind at)
Failing L fault.NoMemory decoding = L

-- what is kept represents the decoded value; or there is a fault
abbrev pub Walked : {X V : Type 0} → (X → V → Type 0) → (Decoding V → Type 0) → Result (X × ℕ × Meter) Fault → Decoding V → Type 0
Walked {X} {V} Sees Lacking (Ok r) decoding = (v : V) × (decoding ≡ Complete v r.1 r.2) × Sees r.0 v
Walked Sees Lacking (Err e) decoding = Failing (Lacking decoding) e decoding

-- ---- the parts of a datum

abbrev pub Part : Parts → Type 0
Part Fields = Datum
Part Items = Datum
Part Pairs = List ℕ × Datum

-- a part with this datum; only a pair has a key
abbrev pub part : (p : Parts) → List ℕ → Datum → Part p
part Fields key d = d
part Items key d = d
part Pairs key d = (key, d)

abbrev pub whole_of : (p : Parts) → List (Part p) → Datum
whole_of Fields ds = RecordDatum (data_from ds)
whole_of Items ds = array_of ds
whole_of Pairs ps = map_of ps

-- the key before a part's datum, where it has one
abbrev pub key_at : Parts → List ℕ → Reader (List ℕ)
key_at Fields bytes at m = Complete [] at m
key_at Items bytes at m = Complete [] at m
key_at Pairs bytes at m = text_at bytes at m

abbrev pub part_at : (p : Parts) → Decoder → List ℕ → ℕ → Reader (Part p)
part_at Fields decoder bytes inner = decoder inner
part_at Items decoder bytes inner = decoder inner
part_at Pairs decoder bytes inner = pair_at decoder bytes inner

-- the parts that a program has gathered
abbrev pub Holds : (p : Parts) → Gathered → List (Part p) → Type 0
Holds Fields (gathered.Fields v) ds = ds ≡ each_datum v.items
Holds Items (gathered.Items v) ds = ds ≡ each_datum v.items
Holds Pairs (gathered.Pairs v) ps = ps ≡ each_pair v.items
Holds p g xs = ⊥
