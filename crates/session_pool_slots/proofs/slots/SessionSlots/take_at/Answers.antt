use Rattle.std.proofs.Common.{◌∷◌, [], ◌∙◌}
use Rattle.session_pool_slots.specs.Seats.{knows}
use Rattle.session_pool_slots.proofs.Searches.{found_twice}
use Rattle.session_pool_slots.proofs.slots.SessionSlots.take_at.Goals as goal

pub returns-then-found-ne-READY-clause-not : goal.returns-then-found-ne-READY-clause-not
returns-then-found-ne-READY-clause-not c = λ miss. let sees = c.look-found.ensures.sees in record {
  words = c.look-found.result ∷ [];
  unready = miss;
  found = sees.found;
  holds = sees.holds ∙ c.requires.seat.1;
}

pub returns-clause-not : goal.returns-clause-not
returns-clause-not c = λ miss. record {
  words = c.look-found.result ∷ c.take_ready.result ∷ [];
  unready = (c.if-found-ne-READY.false, miss);
  found = found_twice (knows c.args.seat.now) (knows c.look-found.new.seat) (knows c.take_ready.new.seat) c.args.slot _ _ c.look-found.ensures.sees.found c.take_ready.ensures.found;
  holds = c.take_ready.ensures.not miss;
}
