use Rattle.std.proofs.Common.{rules, ◌≡◌, ◌∙◌, ◌++◌, ◌∷◌, [], ap, length}
use Rattle.isa.proofs.Stretches.{pushed}
use Rattle.isa.proofs.lists.Lists.push.Goals as goal

pub returns-clause-pushed : goal.returns-clause-pushed
returns-clause-pushed g c =
    let from : c.len-from.result ≡ length c.self.inside.items.items = search rules in
    let to : c.len-to.result ≡ length c.extend_from_slice.new.self.items = search rules in
    rw (c.in_ok-extend_from_slice.ensures.items, c.in_ok-push.ensures.items, c.in_ok-try_reserve.ensures.items)
    (pushed c.self.inside.items.items c.args.list.now c.self.inside.stretches.items (record { from = c.len-from.result; to = c.len-to.result; first = c.len-first.result }) c.self.invariant from (to ∙ ap length c.in_ok-extend_from_slice.ensures.items)
    ∙ ap (λ lists. lists ++ c.args.list.now ∷ []) c.self.view_is)
