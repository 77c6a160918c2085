-- A head that was found is within the limits; where the room is full, none is there.
use Rattle.std.proofs.Common.{rules, arith, ◌≡◌, ◌∙◌, length, ◌+◌, take}
use Rattle.std.proofs.lemmas.List.{length-take}
use Rattle.httparse.specs.Spans.{IsRequestOf, IsRequestWithin}
use Rattle.spec_service.specs.declared.limits.TheConstants.{MOST_HEAD}
use Rattle.gateway_requests.proofs.Fronts.{some_none, taken_more, is_allowed, none_by_room}
use Rattle.gateway_requests.proofs.head.read_head.Goals as goal

pub returns-in-Ok-Complete-clause-front : goal.returns-in-Ok-Complete-clause-front
returns-in-Ok-Complete-clause-front g c =
    let more = c.in_ok-count.ensures.taken in
    let found : IsRequestOf (take (c.loop-received.received + c.in_ok-count.count) c.read_more.new.buffer) c.parse_request.new.headers c.in-Ok-Complete.spans =
    rw c.in-Ok-Complete.field-0-is at c.in-Ok-Complete.ensures.complete in
    let within : IsRequestWithin (take (c.loop-received.received + c.in_ok-count.count) c.read_more.new.buffer) c.parse_request.new.headers c.in-Ok-Complete.spans =
    rw c.in-Ok-Complete.field-0-is at c.in-Ok-Complete.ensures.within in
    let room : length c.read_more.new.buffer ≡ MOST_HEAD = more.room ∙ c.loop-received.invariant.room in (
      more.fits,
      taken_more _ _ _ _ _ _ c.loop-received.invariant.taken more.consumes more.behind,
      within,
      found.0,
      found.1,
      is_allowed _ _ _ found.0 found.1 within
          (let long = length-take (c.loop-received.received + c.in_ok-count.count) c.read_more.new.buffer in omega (arith, long, room))
          (search rules),
    )

pub returns-clause-front : goal.returns-clause-front
returns-clause-front g c =
    let long : length (take c.loop-received.received c.loop-received.buffer) ≡ MOST_HEAD =
    length-take c.loop-received.received c.loop-received.buffer ∙ (search (rules, arith)) in
    none_by_room _ _ _ c.loop-received.invariant.taken
    (some_none _ c.loop-received.invariant.none (omega (arith, long))) long
