use Rattle.machine.proofs.Appending.{missed_grows}
use Rattle.machine.proofs.machine.Machine.miss.Goals as goal

pub returns-clause-appends : goal.returns-clause-appends
returns-clause-appends c =
    missed_grows c.args.miss c.self.inside.store.store c.miss.new.self.store c.args.self.now.layout.arena c.miss.new.self.layout.arena c.miss.ensures.missed
