-- What is under the other names stays.
use Rattle.std.proofs.Common.{arith}
use Rattle.std.proofs.lemmas.Map.Text.{text_keys}
use Rattle.program_compiler.proofs.named_types.put.Goals as goal

pub returns : goal.returns
returns c = λ name n. grind (arith, text_keys)
