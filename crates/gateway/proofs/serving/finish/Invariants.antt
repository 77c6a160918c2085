-- What was refused changed nothing.
use Rattle.std.proofs.Common.{◌≡◌}
use Rattle.session_pool.specs.Seats.{IsPassOf, KeepsOthers, Rests, told}
use Rattle.gateway_core.specs.Gates.{Asked}
use Rattle.gateway.proofs.serving.finish.Given as goal

abbrev pub invariant-loop : goal.invariant-loop
invariant-loop g l = record {
  goes_on : (goal.iterator-loop g).can_next l.iterator';
  ends : (goal.iterator-loop g).is_finite l.iterator';
  rests : Rests l.pool l.seat;
  pass : IsPassOf l.seat l.held;
  held : l.held ≡ l.fn.pass;
  same : told l.seat l.held ≡ told l.fn.seat l.fn.pass;
  others : KeepsOthers l.fn.seat l.fn.pass l.seat;
  asked : Asked g.G.Gate.says l.fn.gate l.gate;
}
