use Rattle.std.proofs.Common.{◌≢◌, All, take}
use Rattle.registry_store.specs.declared.format.TheConstants.{SPACE}
use Rattle.registry_store.proofs.reading.split_field.Given as goal

abbrev pub invariant-loop-at : goal.invariant-loop-at
invariant-loop-at l = All (λ b. b ≢ SPACE) (take l.at l.bytes)
