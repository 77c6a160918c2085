use Rattle.std.specs.Prelude.{string_bytes}
use Rattle.spec_machine.specs.Listing.{map_line}
use Rattle.assembler.proofs.Lines.{one_more}
use Rattle.assembler.proofs.listing.push_maps.Goals as goal

pub loop-number-preserved : goal.loop-number-preserved
loop-number-preserved c =
    rw c.in_ok-push_map.ensures
    (one_more map_line (string_bytes c.args.output.now) (string_bytes c.loop-number.output) c.loop-number.number c.args.maps.now c.list.result.now c.list.ensures c.loop-number.invariant)
