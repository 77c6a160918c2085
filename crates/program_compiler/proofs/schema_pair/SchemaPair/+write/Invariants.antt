-- Each level takes one of the levels that are left. The members so far, before those that are left, are all of them.
use Rattle.std.proofs.Common.{◌≡◌, ◌<◌, length, ◌+◌, ◌*◌, ◌++◌, drop, map}
use Rattle.std.specs.List.{AllByRecursion}
use Rattle.spec_machine.specs.Writing.{write_within}
use Rattle.program_ir.specs.Statements.{parts_in}
use Rattle.program_compiler.specs.Known.{AreKnown}
use Rattle.program_compiler.proofs.schema_pair.SchemaPair.+write.Given as goal

abbrev pub decreases-write_within : goal.decreases-write_within
decreases-write_within l = 4 * l.levels

abbrev pub decreases-write_members : goal.decreases-write_members
decreases-write_members l = 4 * l.steps + 1

abbrev pub decreases-items : goal.decreases-items
decreases-items l = 4 * l.steps + 1

abbrev pub decreases-values : goal.decreases-values
decreases-values l = 4 * l.steps + 1

abbrev pub decreases-straight : goal.decreases-straight
decreases-straight l = 4 * l.steps + 2

abbrev pub decreases-placed : goal.decreases-placed
decreases-placed l = 4 * l.steps + 3

abbrev pub invariant-write_members-loop-member : goal.invariant-write_members-loop-member
invariant-write_members-loop-member l = record {
  so_far : parts_in l.self.writer.now l.self.reader.now l.parts.items ++ map (λ m. write_within l.self.writer.now l.self.reader.now l.steps m l.rn) (drop l.member-index l.members) ≡ map (λ m. write_within l.self.writer.now l.self.reader.now l.steps m l.rn) l.members;
  left : AllByRecursion (λ m. m < length l.self.writer.now) (drop l.member-index l.members);
  known : AreKnown l.self.writer.now l.self.reader.now l.known;
}
