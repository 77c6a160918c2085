-- Each level takes one of the levels that are left. The members so far, before those that are left, are all of them.
use Rattle.std.proofs.Common.{◌≡◌, ◌<◌, length, ◌+◌, ◌*◌, ◌++◌, drop, map}
use Rattle.std.specs.List.{AllByRecursion}
use Rattle.spec_machine.specs.Skipping.{skip_within}
use Rattle.program_ir.specs.Statements.{parts_in}
use Rattle.program_compiler.proofs.schema_pair.SchemaPair.+skip.Given as goal

abbrev pub decreases-skip_within : goal.decreases-skip_within
decreases-skip_within l = 2 * l.levels

abbrev pub decreases-skip_members : goal.decreases-skip_members
decreases-skip_members l = 2 * l.levels + 1

abbrev pub invariant-skip_members-loop-member : goal.invariant-skip_members-loop-member
invariant-skip_members-loop-member l = record {
  so_far : parts_in l.self.writer.now l.self.reader.now l.parts.items ++ map (skip_within l.self.writer.now l.levels) (drop l.member-index l.members) ≡ map (skip_within l.self.writer.now l.levels) l.members;
  left : AllByRecursion (λ m. m < length l.self.writer.now) (drop l.member-index l.members);
}
