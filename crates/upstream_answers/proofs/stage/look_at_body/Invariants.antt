-- Each piece leaves fewer bytes to look at.
use Rattle.std.proofs.Common.{◌≡◌, ◌≤◌, ◌-◌, length}
use Rattle.upstream_answers.proofs.stage.look_at_body.Given as goal

abbrev pub invariant-pieces : goal.invariant-pieces
invariant-pieces l = record {
  within : l.looked ≤ length l.received;
  room : length l.trailers ≡ length l.fn.trailers;
}

abbrev pub decreases-pieces : goal.decreases-pieces
decreases-pieces l = length l.received - l.looked
