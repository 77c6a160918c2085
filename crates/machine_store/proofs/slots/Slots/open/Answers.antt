use Rattle.std.proofs.Common.{◌∙◌, ◌++◌, List, ap, replicate}
use Rattle.machine_store.specs.declared.buffers.Buffer.{Buffer}
use Rattle.machine_store.specs.declared.buffers.Buffer.TheVariants.{Empty}
use Rattle.machine_store.proofs.Slotting.{shown-opened}
use Rattle.machine_store.proofs.slots.Slots.open.Goals as goal

pub returns-clause-opened : goal.returns-clause-opened
returns-clause-opened c =
    let i = c.self.inside in
    shown-opened i.len c.args.more i.index.items i.held.items c.self.invariant ∙ ap (λ (x : List Buffer). x ++ replicate c.args.more Empty) c.self.view_is
