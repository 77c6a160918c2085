-- A default that was noted has the number of its bytes.
use Rattle.std.proofs.Common.{◌≡◌, Some, ap, sym, ◌∙◌, rules}
use Rattle.std.specs.BTreeMap.{get}
use Rattle.std.specs.Str.{bytes_eq}
use Rattle.spec_machine.specs.Numbering.{number}
use Rattle.program_ir.specs.Statements.{bytes_of}
use Rattle.program_ir.specs.Sections.{pair_cmp}
use Rattle.program_compiler.proofs.Defaults.{its_number}
use Rattle.program_compiler.proofs.linking.number_of.Goals as goal

pub returns-in-Some : goal.returns-in-Some
returns-in-Some c =
    let there : get pair_cmp c.args.tables.now.defaults.now (c.in-Default.reader, c.in-Default.field) ≡ Some c.in-Some.number = search rules in
    its_number _ c.args.tables.now.constants.now c.in-Some.number (c.requires (c.in-Default.reader, c.in-Default.field) c.in-Some.number there)
    ∙ ap (λ k. number bytes_eq (bytes_of c.args.r.now k) c.args.tables.now.constants.now) (sym c.in-Default.is)
