-- The number of the constant's bytes.
use Rattle.std.proofs.Common.{◌≡◌, ◌∷◌, [], subst}
use Rattle.std.specs.Str.{bytes_eq}
use Rattle.spec_machine.specs.Numbering.{number}
use Rattle.program_ir.specs.Statements.{bytes_of as bytes_of_constant}
use Rattle.program_compiler.specs.Parts.{Narrows}
use Rattle.program_compiler.proofs.Linked.{at_some}
use Rattle.program_compiler.proofs.linking.putting.Goals as goal

pub returns-in-Some : goal.returns-in-Some
returns-in-Some c =
    let bytes = bytes_of_constant c.args.r.now c.args.constant in
    let same : c.in-Some.number ≡ number bytes_eq bytes c.args.tables.now.constants.now = at_some _ _ _ _ c.in-Some.is c.in_ok-number.ensures in
    c.of_number.ensures (bytes ∷ []) _ (subst (Narrows c.operand.result) same c.operand.ensures)
