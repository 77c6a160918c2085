-- The lines so far, before those of the stack, are the lines of all.
use Rattle.std.proofs.Common.{◌+◌, ◌-◌, ◌*◌, length, reverse, vec_len}
use Rattle.std.specs.List.{AllByRecursion}
use Rattle.schema_explain.specs.Bounds.{AreBelow, HasNodesOf, IsOfNodes}
use Rattle.schema_explain.proofs.Stacked.{Leads}
use Rattle.schema_explain.proofs.explaining.explain.Given as goal

abbrev pub invariant-loop-entry : goal.invariant-loop-entry
invariant-loop-entry l = record {
  nodes : IsOfNodes l.writer l.reader l.explained;
  below : AreBelow l.writer l.reader (length l.explained.pairs) (reverse l.stack.items);
  within : AllByRecursion (HasNodesOf l.writer l.reader) l.lines.items;
  so_far : Leads l.writer l.reader (reverse l.stack.items) l.explained.pairs l.lines.items;
}

abbrev pub decreases-loop-entry : goal.decreases-loop-entry
decreases-loop-entry l = (length l.writer * length l.reader - length l.explained.pairs) * 4097 + vec_len l.stack
