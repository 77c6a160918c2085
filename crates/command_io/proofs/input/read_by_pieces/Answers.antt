-- A read more, a read again, and the last read.
use Rattle.std.proofs.Common.{◌<◌, [], length, arith, ap, ◌∙◌}
use Rattle.std.proofs.KnownBytes.{Consumes-nil}
use Rattle.command_io.proofs.Traffic.{read_again, read_more, read_to_end}
use Rattle.command_io.proofs.input.read_by_pieces.Goals as goal
use Rattle.command_io.proofs.input.read_by_pieces.Goals.{in-Ok+in_ok-extend_from_slice-in-Ok, in-Err}

pub loop-turn-init : goal.loop-turn-init
loop-turn-init g c = rw c.new-all.ensures.items (Consumes-nil _)

pub returns-in-Ok-eq0-clause-ok : goal.returns-in-Ok-eq0-clause-ok
returns-in-Ok-eq0-clause-ok g c =
    let room : 0 < length c.read.new.buf = omega (arith, c.read.auto.buf, c.loop-turn.auto.piece, c.requires) in
    read_to_end _ _ _ _ _ [] c.read.result _ c.loop-turn.invariant c.read.ensures.bytes c.in-Ok-eq0.is c.in-Ok-eq0.field-0-test room

pub loop-turn-preserved : goal.loop-turn-preserved
loop-turn-preserved g c = elim c.match-read.branch [
  | in-Ok+in_ok-extend_from_slice-in-Ok w ↦
      let grown = ap (λ v. v.items) w.all-is ∙ w.in_ok-extend_from_slice-in-Ok.ensures.items in
      read_more _ _ _ _ _ _ c.read.result _ c.loop-turn.invariant c.read.ensures.bytes w.in-Ok.is grown
  | in-Err w ↦ read_again _ _ _ _ _ _ c.read.result _ c.loop-turn.invariant c.read.ensures.bytes w.in-Err.is (ap (λ v. v.items) w.all-is)
]
