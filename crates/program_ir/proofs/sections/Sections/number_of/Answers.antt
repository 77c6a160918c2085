-- Under the nodes is the index of the routine's section.
use Rattle.std.proofs.Common.{◌∙◌, ap, sym}
use Rattle.spec_machine.specs.Statements.{Write}
use Rattle.program_ir.specs.Statements.{section_of}
use Rattle.program_ir.specs.Sections.{place}
use Rattle.program_ir.proofs.sections.Sections.number_of.Goals as goal

pub returns-in-Write-clause-number : goal.returns-in-Write-clause-number
returns-in-Write-clause-number c = c.copied.ensures ∙ c.get.ensures.value ∙ c.self.invariant.writes (c.in-Write.wn, c.in-Write.rn) ∙ ap (place (Write c.in-Write.wn c.in-Write.rn)) c.self.view_is ∙ ap (λ s. place (section_of s) c.args.self.now) (sym c.in-Write.is)
