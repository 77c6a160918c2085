-- Each step into items or values takes one of the steps that are left.
use Rattle.resolver.proofs.rule.+matches_within.Given as goal

abbrev pub decreases-matches_within : goal.decreases-matches_within
decreases-matches_within l = l.steps
