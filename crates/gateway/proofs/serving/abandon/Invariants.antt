-- What was refused changed nothing, and each try found that a worker had the session.
use Rattle.std.proofs.Common.{◌≡◌}
use Rattle.session_pool.specs.Seats.{IsPassOf, KeepsOthers, Rests}
use Rattle.gateway_core.specs.Gates.{Asked}
use Rattle.gateway.specs.Stopping.{FindsBusy}
use Rattle.gateway.proofs.serving.abandon.Given as goal

abbrev pub invariant-loop-try : goal.invariant-loop-try
invariant-loop-try g l = record {
  rests : Rests l.pool l.seat;
  pass : IsPassOf l.seat l.held;
  held : l.held ≡ l.fn.pass;
  others : KeepsOthers l.fn.seat l.fn.pass l.seat;
  asked : Asked g.G.Gate.says l.fn.gate l.gate;
  busy : FindsBusy l.fn.pass l._try l.fn.seat l.seat;
}
