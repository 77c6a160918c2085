use Rattle.std.proofs.Common.{ap}
use Rattle.machine.specs.Running.{Running}
use Rattle.machine.proofs.Appending.{store_grew}
use Rattle.machine.proofs.machine.Machine.add.Goals as goal

pub returns-clause-appends : goal.returns-clause-appends
returns-clause-appends c = store_grew c.self.inside.store c.add.new.self c.args.bytes.now c.args.self.now.layout.arena (ap (λ (r : Running). r.layout.arena) c.self.view_is) c.add.result c.add.ensures.arena c.add.ensures.refused
