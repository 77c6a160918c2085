-- The slot of a partner, and nothing where there is none.
use Rattle.std.proofs.Common.{◌++◌, ap, sym, ◌∙◌, append-nil, arith}
use Rattle.std.proofs.lemmas.Result.{on_ok_weaker}
use Rattle.program_ir.specs.Statements.{statements_in}
use Rattle.program_ir.proofs.Appended.{slot_fits, slot_none, slot_some}
use Rattle.program_ir.proofs.statements.put_slot.Goals as goal

pub overflow_cast-partner : goal.overflow_cast-partner
overflow_cast-partner c = omega (arith, slot_fits c.args.routes.now c.args.field _ c.requires.field c.in-Some.partner c.in-Some.is c.requires.slot)

pub returns-in-Some : goal.returns-in-Some
returns-in-Some c = on_ok_weaker c.put.result (λ h W R.
    h W R ∙ ap (λ l. statements_in W R c.args.statements.now.items ++ l) (sym (slot_some c.args.routes.now c.args.field _ c.requires.field c.in-Some.partner c.in-Some.is))) c.put.ensures

pub returns-in-None : goal.returns-in-None
returns-in-None c = λ W R.
    let old = statements_in W R c.args.statements.now.items in
    sym (append-nil old) ∙ ap (λ l. old ++ l) (sym (slot_none c.args.routes.now c.args.field _ c.requires.field c.in-None.is))
