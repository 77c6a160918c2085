use Rattle.std.proofs.Common.{refl}
use Rattle.avro_datum.proofs.sink.KeepSink.no_parts.Goals as goal

pub returns-in-Fields : goal.returns-in-Fields
returns-in-Fields c = rw (c.in-Fields.is, c.new.ensures.items) refl

pub returns-in-Items : goal.returns-in-Items
returns-in-Items c = rw (c.in-Items.is, c.new-in-Items.ensures.items) refl

pub returns-in-Pairs : goal.returns-in-Pairs
returns-in-Pairs c = rw (c.in-Pairs.is, c.new-in-Pairs.ensures.items) refl
