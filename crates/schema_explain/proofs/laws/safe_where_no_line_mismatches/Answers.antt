-- A bad pair that is reached has a line with a mismatch, and each such line is at one.
use Rattle.schema_explain.proofs.SafeLines.{safe_lines}
use Rattle.schema_explain.proofs.laws.safe_where_no_line_mismatches.Goals as goal

pub returns : goal.returns
returns c = safe_lines _ _ c.each_bad_pair_has_a_line.ensures c.mismatches_are_at_bad_pairs.ensures
