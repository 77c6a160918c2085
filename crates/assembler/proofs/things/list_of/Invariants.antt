use Rattle.std.proofs.Common.{◌≡◌, length}
use Rattle.spec_machine.specs.ListingParts.{each_in}
use Rattle.spec_machine.specs.ListingWords.{later}
use Rattle.assembler.proofs.Each.{with_front}
use Rattle.assembler.proofs.things.list_of.Given as goal

abbrev pub invariant-loop-word : goal.invariant-loop-word
invariant-loop-word g l = with_front l.list.items (each_in g.T.Word.said (later l.rest)) ≡ each_in g.T.Word.said (later l.words)

abbrev pub decreases-loop-word : goal.decreases-loop-word
decreases-loop-word g l = length l.rest
