use Rattle.std.proofs.Common.{◌≡◌, ◌-◌}
use Rattle.spec_machine.specs.declared.limits.TheConstants.{MOST_CONSTANT_BYTES}
use Rattle.avro_loader.specs.Reading.{constants_at}
use Rattle.avro_loader.proofs.Loop.{with_front}
use Rattle.avro_loader.proofs.reading.push_constants.Given as goal

abbrev pub invariant-loop : goal.invariant-loop
invariant-loop l = with_front l.constants (constants_at l.format l.room (l.count - l.counter) l.rest) ≡ constants_at l.format MOST_CONSTANT_BYTES l.count l.bytes
