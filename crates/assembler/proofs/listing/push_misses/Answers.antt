use Rattle.std.proofs.Common.{get_or}
use Rattle.std.proofs.lemmas.Option.{slice_get-get_or}
use Rattle.std.specs.Prelude.{string_bytes}
use Rattle.spec_avro.specs.declared.mismatch.Mismatch.{Mismatch}
use Rattle.spec_avro.specs.declared.mismatch.MismatchKind.TheVariants.{NoMatch}
use Rattle.spec_machine.specs.Listing.{miss_line}
use Rattle.assembler.proofs.Lines.{one_more}
use Rattle.assembler.proofs.listing.push_misses.Goals as goal

abbrev none : Mismatch
none = record { kind = NoMatch; writer_node = 0; reader_node = 0 }

pub loop-number-preserved : goal.loop-number-preserved
loop-number-preserved c =
    rw c.in_ok-push_miss.ensures
    (one_more miss_line (string_bytes c.args.output.now) (string_bytes c.loop-number.output) c.loop-number.number c.args.misses.now
    (get_or c.args.misses.now c.loop-number.number none) (slice_get-get_or c.args.misses.now c.loop-number.number none c.loop-number-test.true) c.loop-number.invariant)
