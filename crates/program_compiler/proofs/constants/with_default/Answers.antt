-- A default that came before adds nothing, and another has the number of its bytes.
use Rattle.std.proofs.Common.{◌≡◌, ◌∷◌, ◌∙◌, [], ap, sym, refl}
use Rattle.std.specs.Str.{bytes_eq}
use Rattle.spec_machine.specs.Numbering.{adding, number}
use Rattle.program_ir.specs.declared.statements.Constant.TheVariants.{Default}
use Rattle.program_ir.specs.Statements.{bytes_of}
use Rattle.program_compiler.proofs.Defaults.{default_before, defaults_on}
use Rattle.program_compiler.proofs.Linked.{at_some}
use Rattle.program_compiler.proofs.constants.with_default.Goals as goal

pub returns-then-contains_key-clause-notes : goal.returns-then-contains_key-clause-notes
returns-then-contains_key-clause-notes c = default_before c.args.r.now c.args.defaults.now c.args.constants (c.args.reader, c.args.field) c.requires _ refl (sym c.contains_key.ensures ∙ c.if-contains_key.true)

pub returns-clause-defaults : goal.returns-clause-defaults
returns-clause-defaults c =
    let bytes = bytes_of c.args.r.now (Default c.args.reader c.args.field) in
    let same : c.in-Some.bytes.items ≡ bytes = at_some _ _ _ _ c.in-Some.is c.in_ok-bytes.ensures in
    defaults_on c.args.r.now c.args.defaults.now c.insert.new.self c.args.constants c.in_ok-more.more (c.args.reader, c.args.field) c.number_of-number.result c.requires
    (c.number_of-number.ensures ∙ ap (λ b. number bytes_eq b c.args.constants) same)
    (c.in_ok-more.ensures ∙ ap (λ b. adding bytes_eq c.args.constants (b ∷ [])) same)
    c.in_ok-insert.ensures.updates.0
