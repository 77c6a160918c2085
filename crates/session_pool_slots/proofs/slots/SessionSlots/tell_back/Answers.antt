use Rattle.std.proofs.Common.{rules, []}
use Rattle.session_pool_slots.proofs.Calls.{gave_now, put_in}
use Rattle.session_pool_slots.proofs.Keeping.{gives_back_at}
use Rattle.session_pool_slots.specs.Account.{At, RowsOn, has_ended, told_all}
use Rattle.session_pool_slots.proofs.Accounts.{told_fits}
use Rattle.session_pool_slots.proofs.slots.SessionSlots.tell_back.Goals as goal

pub store-requires : goal.store-requires
store-requires c = let h = c.requires.pass in let m = c.args.seat.now.seat.me in
    let e = put_in m c.exchange.new.seat.me _ _ _ _ c.requires.seat.1 c.exchange.ensures.3 in
    (search rules, search rules, gives_back_at At has_ended told_all RowsOn _ _ _ m.0 _ _ h.pass h.session c.args.session [] e h.inside h.there h.out (told_fits h.pass.account c.args.session) h.holds c.requires.word)

pub returns-clause-seat : goal.returns-clause-seat
returns-clause-seat c = let h = c.requires.pass in let m = c.args.seat.now.seat.me in
    let e = put_in m c.exchange.new.seat.me _ _ _ _ c.requires.seat.1 c.exchange.ensures.3 in
    (search rules, (gave_now told_all RowsOn _ _ m.0 _ c.args.word h.pass h.session c.args.session e h.there h.out c.store.ensures.2).1)

pub returns-clause-gave : goal.returns-clause-gave
returns-clause-gave c = let h = c.requires.pass in let m = c.args.seat.now.seat.me in
    let e = put_in m c.exchange.new.seat.me _ _ _ _ c.requires.seat.1 c.exchange.ensures.3 in
    (gave_now told_all RowsOn _ _ m.0 _ c.args.word h.pass h.session c.args.session e h.there h.out c.store.ensures.2).0
