use Rattle.std.proofs.Common.{rules}
use mathlib.Core.Option.{none}
use Rattle.session_pool_slots.proofs.Keeping.{takes_own}
use Rattle.session_pool_slots.specs.Account.{At, has_ended}
use Rattle.session_pool_slots.proofs.slots.SessionSlots.take_from.Goals as goal

pub compare_exchange-requires : goal.compare_exchange-requires
compare_exchange-requires c = let h = c.requires.pass in
    (search rules, search rules, takes_own At has_ended _ _ _ _ _ h.pass _ none h.inside h.there h.home h.from)
