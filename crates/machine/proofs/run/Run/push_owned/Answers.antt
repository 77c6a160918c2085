use Rattle.std.proofs.Common.{◌≡◌, ◌∙◌, [], ap, arith}
use Rattle.std.proofs.lemmas.List.{nil_from_length}
use Rattle.machine.specs.Run.{Run}
use Rattle.machine.proofs.Alone.{kept_on_first}
use Rattle.machine.proofs.run.Run.push_owned.Goals as goal

pub invariant_of-self : goal.invariant_of-self
invariant_of-self c =
    let i = c.self.inside in
    let none : i.input.items ≡ [] = nil_from_length i.input.items (grind (arith, c.if-is_empty.ensures, i.input.ok)) in
    kept_on_first i.program.now i.input.items c.args.piece.items i.ended i.machine none (ap (λ (r : Run). r.ended) c.self.view_is ∙ c.requires)
    c.runs_alone_are_counted_and_stay.ensures.stay c.machines_go_on_with_more_input.ensures.stays c.self.invariant
