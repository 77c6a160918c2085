use Rattle.std.proofs.Common.{rules, ◌≡◌, [], refl}
use Rattle.schema_registry.specs.declared.candidate.Finding.{Finding}
use Rattle.schema_registry.proofs.Found.{found-more}
use Rattle.schema_registry.proofs.candidate.Candidate.compare.Goals as goal
use Rattle.schema_registry.proofs.candidate.Candidate.compare.Goals.{then-ne, else-ne}

pub invariant_of-self-2 : goal.invariant_of-self-2
invariant_of-self-2 c =
    let f : Finding = record { id = c.args.id; old = c.args.old; goes = c.in_ok-goes.goes } in
    let new = c.self.inside.schema in
    elim c.if-ne.branch [
      | then-ne w ↦ rw (c.in_ok-push.ensures.items, w.self-inside-is, w.clear.ensures.items)
          (found-more c.args.level c.args.level new c.args.old.now [] f refl refl tt c.in_ok-goes.ensures)
      | else-ne w ↦
          let same : c.self.inside.level ≡ c.args.level = search rules in
          rw (c.in_ok-push.ensures.items, w.self-inside-is)
          (found-more c.self.inside.level c.args.level new c.args.old.now c.self.inside.found.items f same refl c.self.invariant c.in_ok-goes.ensures)
    ]
