use Rattle.std.proofs.Common.{◌∙◌, ap, sym}
use Rattle.spec_machine.specs.Judging.{first_out, first_out_in}
use Rattle.isa.proofs.Unshared.{none_in_lists}
use Rattle.isa.proofs.lists.Lists.items.Goals as goal

pub returns : goal.returns
returns g c test h = ap (first_out_in test) (sym c.self.view_is)
    ∙ none_in_lists test c.self.inside.items.items c.self.inside.stretches.items (ap (first_out test) (sym c.deref.ensures.value) ∙ h)
