-- The entries so far, before those of the members that are left.
use Rattle.std.proofs.Common.{◌≡◌, ◌++◌, drop}
use Rattle.schema_explain.specs.Parts.{branch_entries}
use Rattle.schema_explain.proofs.parts.branch_entries.Given as goal

abbrev pub invariant-loop-position : goal.invariant-loop-position
invariant-loop-position l = l.entries.items ++ branch_entries l.whole l.position (drop l.position l.members) ≡ branch_entries l.whole 0 l.members
