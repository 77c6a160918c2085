use Rattle.avro_datum.proofs.Gathering.{array_whole, map_whole, record_whole}
use Rattle.avro_datum.proofs.sink.KeepSink.whole.Goals as goal

pub returns-in-Fields : goal.returns-in-Fields
returns-in-Fields c p xs h = record_whole c.in-Fields.data p xs (rw c.in-Fields.is at h)

pub returns-in-Items : goal.returns-in-Items
returns-in-Items c p xs h = array_whole c.in-Items.data p xs (rw c.in-Items.is at h)

pub returns-in-Pairs : goal.returns-in-Pairs
returns-in-Pairs c p xs h = map_whole c.in-Pairs.pairs p xs (rw c.in-Pairs.is at h)
