-- What is there stays where it is, and another comes last.
use Rattle.std.proofs.Common.{◌≡◌, ◌∙◌, ap, sym, is_some, false}
use Rattle.std.proofs.lemmas.Result.{on_ok_weaker}
use Rattle.spec_machine.specs.Numbering.{has, same_miss}
use Rattle.program_ir.proofs.Tables.{adding_new, adding_there, is_found}
use Rattle.program_ir.proofs.misses.Misses.add.Goals as goal

pub returns-then-is_some-clause-added : goal.returns-then-is_some-clause-added
returns-then-is_some-clause-added c = adding_there same_miss c.args.miss c.args.self.now (sym (is_found same_miss c.args.miss c.args.self.now) ∙ ap is_some (sym c.get.ensures) ∙ sym c.is_some.ensures ∙ c.if-is_some.true)

pub returns-clause-added : goal.returns-clause-added
returns-clause-added c =
    let absent : has same_miss c.args.miss c.args.self.now ≡ false = sym (is_found same_miss c.args.miss c.args.self.now) ∙ ap is_some (sym c.get.ensures) ∙ sym c.is_some.ensures ∙ c.if-is_some.false in
    on_ok_weaker c.add_new.result (λ h. h ∙ adding_new same_miss c.args.miss c.args.self.now absent) c.add_new.ensures.added
