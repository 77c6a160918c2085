use Rattle.std.proofs.Common.{◌≡◌, ◌∙◌, List, ap, reverse, subst, sym}
use Rattle.spec_machine.specs.State.{is_done}
use Rattle.machine_store.specs.declared.store.Frame.{Frame}
use Rattle.machine_store.specs.Buffers.{with_fewer}
use Rattle.machine_store.specs.Store.{Held, IsKept, leave, out_of, texts_of, with_frames}
use Rattle.machine_store.proofs.Closing.{kept-shortened}
use Rattle.machine_store.proofs.Dropping.{shown-dropped}
use Rattle.machine_store.proofs.Keeping.{store_of}
use Rattle.machine_store.proofs.store.Store.drop_newest.Goals as goal

pub invariant_of-self : goal.invariant_of-self
invariant_of-self c =
    let i = c.self.inside in
    rw c.shorten.ensures (subst (λ (fs : List Frame). IsKept fs (with_fewer c.in-Some.first i.buffers) i.lost i.units i.mark i.over) c.popped-self-inside.ensures (kept-shortened i.top (reverse i.below.items) i.buffers i.lost i.units i.mark i.over c.in-Some.first c.self.invariant (sym c.in-Some.ensures) (ap (λ (x : Held). is_done x.store.mark x.store.over) c.self.view_is ∙ c.requires.done)))

pub returns-clause-dropped : goal.returns-clause-dropped
returns-clause-dropped c =
    let i = c.self.inside in
    let b = with_fewer c.in-Some.first i.buffers in
    rw c.shorten.ensures (subst (λ (fs : List Frame). store_of fs (texts_of b) (out_of b) i.mark i.over ≡ with_frames (leave c.args.self.now.store.frames) c.args.self.now.store) c.popped-self-inside.ensures (shown-dropped i.top (reverse i.below.items) i.buffers i.units i.mark i.over c.in-Some.first c.args.self.now c.self.view_is (sym c.in-Some.ensures)))
