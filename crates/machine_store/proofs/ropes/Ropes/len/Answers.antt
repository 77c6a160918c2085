use Rattle.std.proofs.Common.{◌∙◌, List, ap, arith, sym}
use Rattle.machine_store.specs.declared.ropes.Segment.{Segment}
use Rattle.machine_store.specs.Ropes.{counted, rope_at}
use Rattle.machine_store.proofs.Roping.{counted_of, first_rope, how_many}
use Rattle.machine_store.proofs.ropes.Ropes.len.Goals as goal

pub index-requires : goal.index-requires
index-requires c =
    omega (arith, how_many c.args.self.now c.self.inside.joints.items c.self.view_is, c.requires, c.if-rope-eq0.false)

pub returns-then-rope-eq0 : goal.returns-then-rope-eq0
returns-then-rope-eq0 c =
    let js = c.self.inside.joints.items in
    sym (ap (λ (x : List (List Segment)). counted (rope_at x c.args.rope)) (sym c.self.view_is) ∙ rw c.if-rope-eq0.true (ap counted (first_rope js)))

pub returns-else-rope-eq0 : goal.returns-else-rope-eq0
returns-else-rope-eq0 c =
    let js = c.self.inside.joints.items in
    let n = how_many c.args.self.now js c.self.view_is in
    ap (λ j. j.len) c.index.ensures ∙ counted_of js c.args.rope c.index.result.now c.self.invariant (omega (arith, c.if-rope-eq0.false)) (omega (arith, n, c.requires))
    ∙ ap (λ (x : List (List Segment)). counted (rope_at x c.args.rope)) c.self.view_is
