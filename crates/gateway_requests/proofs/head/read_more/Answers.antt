-- What was taken follows what had been received.
use Rattle.std.proofs.Common.{rules, arith, take}
use Rattle.std.proofs.lemmas.List.{length-drop, length-take-le}
use Rattle.gateway_requests.proofs.Fronts.{take_behind}
use Rattle.gateway_requests.proofs.head.read_more.Goals as goal

pub returns-clause-taken : goal.returns-clause-taken
returns-clause-taken g c = record {
  more = take c.in_ok-count.count c.read_once.new.buffer;
  consumes = c.in_ok-count.ensures.bytes.0;
  long = length-take-le c.in_ok-count.count c.read_once.new.buffer c.in_ok-count.ensures.bound.0;
  fits = search (rules, arith, length-drop);
  room = search rules;
  behind = take_behind c.args.received _ c.in_ok-count.count c.args.buffer.now c.read_once.new.buffer
      (let h = c.requires.room in omega (arith, h)) c.in_ok-count.ensures.bound.0;
  at_end = search (rules, arith, length-drop);
}
