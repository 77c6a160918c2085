use Rattle.std.proofs.Common.{◌∷◌, reverse}
use Rattle.machine_store.proofs.Keeping.{kept-none, shown-passed}
use Rattle.machine_store.proofs.store.Store.pass_limit.Goals as goal

pub invariant_of-self : goal.invariant_of-self
invariant_of-self c =
    let i = c.self.inside in
    rw c.empty_all.ensures (kept-none (i.top ∷ reverse i.below.items) i.buffers i.lost i.units i.mark i.mark i.over _ c.self.invariant)

pub returns-clause-passed : goal.returns-clause-passed
returns-clause-passed c =
    let i = c.self.inside in
    rw c.empty_all.ensures (shown-passed (i.top ∷ reverse i.below.items) i.buffers i.lost i.units i.mark i.over c.args.self.now c.self.view_is c.self.invariant)
