-- What is left, and then the stack from its top, is the whole.
use Rattle.std.proofs.Common.{◌≡◌, ◌++◌, reverse, vec_len}
use Rattle.schema_explain.proofs.entries.put_on_top.Given as goal

abbrev pub invariant-loop-entry : goal.invariant-loop-entry
invariant-loop-entry l = l.rest.items ++ reverse l.stack.items ≡ l.fn.entries.items ++ reverse l.fn.stack.items

abbrev pub decreases-loop-entry : goal.decreases-loop-entry
decreases-loop-entry l = vec_len l.rest
