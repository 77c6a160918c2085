use Rattle.std.proofs.Common.{◌∙◌, sym, refl}
use Rattle.isa.proofs.Judged.{sound, refused}
use Rattle.isa.specs.Program.{program_of}
use Rattle.isa.proofs.program.Program.new.Goals as goal

pub invariant_of-result : goal.invariant_of-result
invariant_of-result c = sound (program_of c.args.parts) (sym c.first_error.ensures ∙ c.in-None.is)

pub returns-in-Some-clause-exact : goal.returns-in-Some-clause-exact
returns-in-Some-clause-exact c = (λ e. absurd cc, λ h. absurd (refused (program_of c.args.parts) c.in-Some.error (sym c.first_error.ensures ∙ c.in-Some.is) h))

pub returns-in-None-clause-exact : goal.returns-in-None-clause-exact
returns-in-None-clause-exact c = (λ e. sound (program_of c.args.parts) (sym c.first_error.ensures ∙ c.in-None.is), λ h. refl)
