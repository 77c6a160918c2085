-- The law is the lemma `safe_data_are_readable`.
use Rattle.resolver.proofs.Compatibility.{safe_data_are_readable}
use Rattle.resolver.proofs.laws.what_is_safe_can_be_read.Goals as goal

pub returns : goal.returns
returns c = safe_data_are_readable
