-- Each step into items or values takes one of the steps that are left.
use Rattle.schema_report.proofs.types.+push_beside.Given as goal

abbrev pub decreases-push_beside : goal.decreases-push_beside
decreases-push_beside l = l.steps
