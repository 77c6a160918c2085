use Rattle.std.proofs.Common.{◌≡◌, arith, length, rules}
use Rattle.schema_registry_maps.proofs.Numbers.{few_versions, one_number}
use Rattle.schema_registry_maps.proofs.versions.Versions.add.Goals as goal

pub overflow_cast-number : goal.overflow_cast-number
overflow_cast-number c = omega (arith, few_versions c.self.inside.numbers c.self.inside.ids.items c.self.invariant)

pub overflow_add-number : goal.overflow_add-number
overflow_add-number c = omega (arith, few_versions c.self.inside.numbers c.self.inside.ids.items c.self.invariant)

pub invariant_of-self-in-Ok : goal.invariant_of-self-in-Ok
invariant_of-self-in-Ok c =
    let len : c.len.result ≡ length c.self.inside.ids.items = search rules in
    rw c.in_ok-push.ensures.items
    (one_number c.self.inside.numbers c.insert.new.self c.self.inside.ids.items c.args.id c.self.invariant
    (rw (← c.self.view_is) at c.requires.new) c.len.result len c.requires.known c.in-Ok.ensures.updates)
