use Rattle.std.proofs.Common.{◌≡◌, ◌-◌}
use Rattle.spec_machine.specs.declared.limits.TheConstants.{MOST_ENTRIES}
use Rattle.avro_loader.specs.Reading.{section_at, things_at}
use Rattle.avro_loader.proofs.Loop.{with_front}
use Rattle.avro_loader.proofs.reading.push_tables.Given as goal

abbrev pub invariant-loop : goal.invariant-loop
invariant-loop g l =
    let table = section_at l.format MOST_ENTRIES (g.T.Thing.thing_at l.format) in
    with_front l.tables (things_at table (l.count - l.counter) l.rest) ≡ things_at table l.count l.bytes
