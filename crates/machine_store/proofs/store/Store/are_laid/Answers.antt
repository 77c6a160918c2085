use Rattle.std.proofs.Common.{◌∷◌, reverse}
use Rattle.machine_store.proofs.Viewing.{lies}
use Rattle.machine_store.proofs.store.Store.are_laid.Goals as goal

pub returns-clause-bytes : goal.returns-clause-bytes
returns-clause-bytes c =
    let i = c.self.inside in
    (lies (i.top ∷ reverse i.below.items) i.buffers i.units i.mark i.over c.args.at c.args.self.now c.self.invariant.places c.are_laid.ensures c.self.view_is c.requires).bytes

pub returns-clause-segments : goal.returns-clause-segments
returns-clause-segments c =
    let i = c.self.inside in
    (lies (i.top ∷ reverse i.below.items) i.buffers i.units i.mark i.over c.args.at c.args.self.now c.self.invariant.places c.are_laid.ensures c.self.view_is c.requires).segments
