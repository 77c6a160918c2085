use Rattle.std.proofs.Common.{◌-◌, ℕ, ap}
use Rattle.spec_avro.specs.declared.limits.TheConstants.{MOST_OUTPUT}
use Rattle.machine_store.proofs.store.Store.room.Goals as goal

pub returns : goal.returns
returns c = ap (λ (n : ℕ). MOST_OUTPUT - n) c.held.ensures.held
