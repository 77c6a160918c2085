use Rattle.std.proofs.Common.{◌≡◌, ◌-◌}
use Rattle.avro_loader.specs.Reading.{things_at}
use Rattle.avro_loader.proofs.Loop.{with_front}
use Rattle.avro_loader.proofs.reading.push_things.Given as goal

abbrev pub invariant-loop : goal.invariant-loop
invariant-loop g l = with_front l.things.items (things_at (g.T.Thing.thing_at l.format) (l.count - l.counter) l.rest) ≡ things_at (g.T.Thing.thing_at l.format) l.count l.bytes
