use Rattle.std.proofs.Common.{◌∙◌, List, ap, sym}
use Rattle.std.proofs.lemmas.List.{take-map}
use Rattle.machine_store.specs.declared.ropes.Segment.{Segment}
use Rattle.machine_store.specs.Buffers.{laid_of, segments_of, with_fewer}
use Rattle.machine_store.proofs.Placing.{fewer-laid}
use Rattle.machine_store.proofs.buffers.Buffers.shorten.Goals as goal

pub invariant_of-self : goal.invariant_of-self
invariant_of-self c = let i = c.self.inside in rw c.shorten.ensures (fewer-laid i.arena.items i.ropes i.out i.slots c.args.first c.self.invariant)

pub returns : goal.returns
returns c =
    let i = c.self.inside in
    ap (laid_of i.arena.items i.ropes i.out) c.shorten.ensures
    ∙ ap (λ (x : List (List Segment)). record { arena = i.arena.items; out = segments_of i.ropes i.out; slots = x }) (sym (take-map (segments_of i.ropes) c.args.first i.slots))
    ∙ ap (with_fewer c.args.first) c.self.view_is
