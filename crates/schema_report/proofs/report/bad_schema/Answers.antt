-- The printed text.
use Rattle.std.proofs.Common.{append_assoc}
use Rattle.schema_report.proofs.report.bad_schema.Goals as goal

pub returns : goal.returns
returns c = simp append_assoc (rw c.name-name.ensures at c.in_ok-text.ensures.ok)
