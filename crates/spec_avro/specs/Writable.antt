-- Which data can be written (Avro 1.11, "Binary Encoding": bytes and string; arrays and maps).
use Rattle.std.specs.Prelude.{ℕ}
use Rattle.spec_avro.specs.declared.limits.TheConstants.{MOST_CONTENT}
use Rattle.spec_avro.specs.Datum.{Datum, Data, Pairs}
use Rattle.spec_avro.specs.Sizes.{HasSizesWithin, HaveSizesWithin, HavePairsWithin}

-- as many items as a long can count: 2^63 - 1
abbrev pub most_items : ℕ
most_items = 9223372036854775807

-- no text, byte string or key is longer than a length may be, and a long can count the items of each array and map
abbrev pub IsWritable : Datum → Type 0
IsWritable d = HasSizesWithin MOST_CONTENT most_items d

abbrev pub AreWritable : Data → Type 0
AreWritable ds = HaveSizesWithin MOST_CONTENT most_items ds

abbrev pub AreWritablePairs : Pairs → Type 0
AreWritablePairs ps = HavePairsWithin MOST_CONTENT most_items ps
