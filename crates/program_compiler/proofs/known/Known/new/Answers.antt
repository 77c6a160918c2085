use Rattle.program_compiler.proofs.Kept.{none_lacking, none_placed}
use Rattle.program_compiler.proofs.known.Known.new.Goals as goal

pub returns : goal.returns
returns c = λ W R. record { lacking = none_lacking W R c.new.result c.new.ensures.empty; types = tt; positions = none_placed R c.new-2.result c.new-2.ensures.empty }
