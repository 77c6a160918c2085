-- What is there stays where it is, and another comes last.
use Rattle.std.proofs.Common.{◌≡◌, ◌∙◌, ap, sym, is_some, false}
use Rattle.std.specs.Str.{bytes_eq}
use Rattle.std.proofs.lemmas.Result.{IfOk-weaker}
use Rattle.spec_machine.specs.Numbering.{has}
use Rattle.program_ir.proofs.Tables.{adding_new, adding_there, is_found}
use Rattle.program_ir.proofs.constants.Constants.with.Goals as goal

pub returns-then-is_some : goal.returns-then-is_some
returns-then-is_some c = adding_there bytes_eq c.args.bytes.items c.args.self (sym (is_found bytes_eq c.args.bytes.items c.args.self) ∙ ap is_some (sym c.get.ensures) ∙ sym c.is_some.ensures ∙ c.if-is_some.true)

pub returns : goal.returns
returns c =
    let absent : has bytes_eq c.args.bytes.items c.args.self ≡ false = sym (is_found bytes_eq c.args.bytes.items c.args.self) ∙ ap is_some (sym c.get.ensures) ∙ sym c.is_some.ensures ∙ c.if-is_some.false in
    IfOk-weaker c.with_new.result _ _ (λ x h. h ∙ adding_new bytes_eq c.args.bytes.items c.args.self absent) c.with_new.ensures
