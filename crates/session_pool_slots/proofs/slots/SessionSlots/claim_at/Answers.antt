use Rattle.std.proofs.Common.{◌∷◌, [], ◌∙◌}
use Rattle.session_pool_slots.proofs.Calls.{same_on}
use Rattle.session_pool_slots.specs.Seats.{knows}
use Rattle.session_pool_slots.proofs.Begun.{claimed_later}
use Rattle.session_pool_slots.proofs.Searches.{found_twice}
use Rattle.session_pool_slots.proofs.slots.SessionSlots.claim_at.Goals as goal

pub returns-then-found-ne-FREE-clause-not : goal.returns-then-found-ne-FREE-clause-not
returns-then-found-ne-FREE-clause-not c = λ miss. let sees = c.look-found.ensures.sees in record {
  words = c.look-found.result ∷ [];
  taken = miss;
  found = sees.found;
  holds = sees.holds ∙ c.requires.seat.1;
  same = sees.same;
}

pub returns-clause-claimed : goal.returns-clause-claimed
returns-clause-claimed c = λ hit x is. claimed_later _ _ _ _ x c.look-found.ensures.sees.same (c.claim.ensures.claimed hit x is)

pub returns-clause-not : goal.returns-clause-not
returns-clause-not c = λ miss. record {
  words = c.look-found.result ∷ c.claim.result ∷ [];
  taken = (c.if-found-ne-FREE.false, miss);
  found = found_twice (knows c.args.seat.now) (knows c.look-found.new.seat) (knows c.claim.new.seat) c.args.slot _ _ c.look-found.ensures.sees.found c.claim.ensures.found;
  holds = (c.claim.ensures.not miss).0;
  same = same_on _ _ _ c.look-found.ensures.sees.same (c.claim.ensures.not miss).1;
}
