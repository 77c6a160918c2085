-- Each entry has one line, and one list of parts.
use Rattle.schema_explain.proofs.OneExplanation.{one_explanation}
use Rattle.schema_explain.proofs.laws.there_is_one_explanation.Goals as goal

pub returns : goal.returns
returns c = one_explanation _ _
