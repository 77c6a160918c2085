use Rattle.std.proofs.Common.{rules, [], Some}
use Rattle.session_pool_slots.proofs.Calls.{freed_now, put_in}
use Rattle.session_pool_slots.proofs.Keeping.{frees_at}
use Rattle.session_pool_slots.specs.Account.{At, has_ended}
use Rattle.session_pool_slots.proofs.slots.SessionSlots.free.Goals as goal

pub store-requires : goal.store-requires
store-requires c = let h = c.requires.pass in let m = c.args.seat.now.seat.me in
    let e = put_in m c.exchange.new.seat.me _ _ _ _ c.requires.seat.1 c.exchange.ensures.3 in
    (search rules, search rules, frees_at At has_ended _ _ _ m.0 _ h.pass h.session (Some c.args.kept) [] e h.inside h.there h.out)

pub returns-clause-seat : goal.returns-clause-seat
returns-clause-seat c = let h = c.requires.pass in let m = c.args.seat.now.seat.me in
    let e = put_in m c.exchange.new.seat.me _ _ _ _ c.requires.seat.1 c.exchange.ensures.3 in
    (search rules, (freed_now _ _ m.0 _ 0 c.args.kept h.pass e h.there c.store.ensures.2).1)

pub returns-clause-freed : goal.returns-clause-freed
returns-clause-freed c = let h = c.requires.pass in let m = c.args.seat.now.seat.me in
    let e = put_in m c.exchange.new.seat.me _ _ _ _ c.requires.seat.1 c.exchange.ensures.3 in
    (freed_now _ _ m.0 _ 0 c.args.kept h.pass e h.there c.store.ensures.2).0
