-- As many as were added so far.
use Rattle.std.proofs.Common.{◌≡◌, ◌-◌, ◌≤◌, ◌++◌, length, replicate}
use Rattle.schema_check.proofs.checking.add_parents.Given as goal

abbrev pub invariant-loop-parents : goal.invariant-loop-parents
invariant-loop-parents l = record {
  few : length l.parents.items ≤ l.len;
  more : length l.fn.parents.items ≤ length l.parents.items;
  added : l.parents.items ≡ l.fn.parents.items ++ replicate (length l.parents.items - length l.fn.parents.items) l.parent;
}

abbrev pub decreases-loop-parents : goal.decreases-loop-parents
decreases-loop-parents l = l.len - length l.parents.items
