-- The printed text.
use Rattle.std.proofs.Common.{append_assoc}
use Rattle.commands.proofs.refusal.bad_listing.Goals as goal

pub returns : goal.returns
returns c = simp append_assoc (rw c.name_of_fault-name.ensures at c.in_ok-text.ensures.ok)
