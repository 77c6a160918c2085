use Rattle.std.proofs.Common.{◌≡◌, ◌∙◌, ◌∷◌, ℕ, Option, ap, reverse, subst, sym}
use Rattle.machine_store.specs.Store.{Held, IsKept, held_of}
use Rattle.machine_store.proofs.Keeping.{kept-none, miss-first, miss-later}
use Rattle.machine_store.proofs.store.Store.miss.Goals as goal

pub invariant_of-self : goal.invariant_of-self
invariant_of-self c =
    let i = c.self.inside in
    rw c.empty_all.ensures (kept-none (i.top ∷ reverse i.below.items) i.buffers i.lost i.units i.mark _ i.over i.over c.self.invariant)

pub returns-in-None-clause-missed : goal.returns-in-None-clause-missed
returns-in-None-clause-missed c =
    let i = c.self.inside in
    let fs = i.top ∷ reverse i.below.items in
    rw c.empty_all.ensures (miss-first fs i.buffers i.lost i.units i.over c.args.miss c.args.self.now (subst (λ (m : Option ℕ). held_of fs i.buffers i.units m i.over ≡ c.args.self.now) c.in-None.is c.self.view_is) (subst (λ (m : Option ℕ). IsKept fs i.buffers i.lost i.units m i.over) c.in-None.is c.self.invariant))

pub returns-in-Some-clause-missed : goal.returns-in-Some-clause-missed
returns-in-Some-clause-missed c = miss-later c.args.miss _ c.args.self.now.store (sym (ap (λ (x : Held). x.store.mark) c.self.view_is) ∙ c.in-Some.is)
