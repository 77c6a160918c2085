use Rattle.machine_store.proofs.Placing.{kept-either, refused-either, shown-either}
use Rattle.machine_store.proofs.buffers.Buffers.open.Goals as goal

pub invariant_of-self : goal.invariant_of-self
invariant_of-self c =
    let i = c.self.inside in
    kept-either c.open.result i.arena.items i.ropes i.out i.slots c.open.new.self c.args.more c.self.invariant c.open.ensures.opened c.open.ensures.refused

pub returns-clause-opened : goal.returns-clause-opened
returns-clause-opened c =
    let i = c.self.inside in
    shown-either c.open.result i.arena.items i.ropes i.out i.slots c.open.new.self c.args.more c.args.self.now c.self.view_is c.open.ensures.opened

pub returns-clause-refused : goal.returns-clause-refused
returns-clause-refused c =
    let i = c.self.inside in
    refused-either c.open.result i.arena.items i.ropes i.out i.slots c.open.new.self c.args.self.now c.self.view_is c.open.ensures.refused
