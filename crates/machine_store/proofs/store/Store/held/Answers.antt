use Rattle.std.proofs.Common.{◌∷◌, List, ℕ, ap, arith, length, reverse}
use Rattle.spec_machine.specs.State.{total}
use Rattle.machine_store.specs.Store.{Held}
use Rattle.machine_store.proofs.Keeping.{total-is}
use Rattle.machine_store.proofs.store.Store.held.Goals as goal

pub returns-clause-held : goal.returns-clause-held
returns-clause-held c =
    let i = c.self.inside in
    omega (arith, ap (λ (x : List ℕ). length x) c.arena.ensures, total-is (i.top ∷ reverse i.below.items) i.buffers i.lost i.units i.mark i.over c.self.invariant, ap (λ (x : Held). total x.store) c.self.view_is)
