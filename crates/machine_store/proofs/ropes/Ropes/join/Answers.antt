use Rattle.std.proofs.Common.{◌∙◌, [], ◌∷◌, ◌++◌, List, ap, arith, sym}
use Rattle.machine_store.specs.declared.ropes.Segment.{Segment}
use Rattle.machine_store.specs.Ropes.{counted, rope_at}
use Rattle.machine_store.proofs.Roping.{AreCounted-push, AreJoints-push, counted_joined, how_many, pushed}
use Rattle.machine_store.proofs.ropes.Ropes.join.Goals as goal

pub invariant_of-self-2 : goal.invariant_of-self-2
invariant_of-self-2 c =
    let n = how_many c.args.self.now c.self.inside.joints.items c.self.view_is in
    rw c.in_ok-push.ensures.items (record {
      ordered = AreJoints-push 0 _ _ c.self.invariant.ordered (record { before = omega (arith, n, c.requires.before); behind = omega (arith, n, c.requires.behind) });
      counts = AreCounted-push ([] ∷ []) _ _ c.self.invariant.counts
          (counted_joined (rope_at c.args.self.now c.args.before) (rope_at c.args.self.now c.args.behind) c.args.segment c.saturating_add-len.result
          (omega (arith, c.saturating_add-len.ensures, c.saturating_add.ensures, c.len.ensures, c.len-2.ensures))
          ∙ ap (λ (x : List (List Segment)). counted (rope_at x c.args.before ++ c.args.segment ∷ rope_at x c.args.behind)) (sym c.self.view_is));
    })

pub returns-clause-number : goal.returns-clause-number
returns-clause-number c = omega (arith, c.len.ensures, c.in_ok-push.ensures.len, how_many c.args.self.now c.self.inside.joints.items c.self.view_is)

pub returns-clause-joined : goal.returns-clause-joined
returns-clause-joined c = pushed _ _ _ _ c.self.view_is c.in_ok-push.ensures.items
