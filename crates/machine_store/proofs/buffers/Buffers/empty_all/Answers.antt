use Rattle.std.proofs.Common.{length, ap, arith}
use Rattle.std.proofs.lemmas.List.{length-map}
use Rattle.machine_store.specs.Buffers.{segments_of}
use Rattle.machine_store.proofs.Placing.{emptied-laid, shows-emptied}
use Rattle.machine_store.proofs.buffers.Buffers.empty_all.Goals as goal

pub invariant_of-self : goal.invariant_of-self
invariant_of-self c = emptied-laid c.clear.new.self.items c.clear-2.new.self c.empty_all.new.self (length c.self.inside.slots) c.clear-2.ensures c.empty_all.ensures

pub returns : goal.returns
returns c =
    shows-emptied c.clear.new.self.items c.clear-2.new.self c.empty_all.new.self (length c.self.inside.slots) c.args.self.now c.clear.ensures.items c.empty_all.ensures
    (omega (arith, ap (λ x. length x.slots) c.self.view_is, length-map c.self.inside.slots (segments_of c.self.inside.ropes)))
