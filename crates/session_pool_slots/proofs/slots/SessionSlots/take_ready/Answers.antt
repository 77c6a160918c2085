use Rattle.std.proofs.Common.{rules}
use mathlib.Core.Option.{none}
use Rattle.session_pool_slots.proofs.Keeping.{steals}
use Rattle.session_pool_slots.specs.Account.{At, has_ended}
use Rattle.session_pool_slots.proofs.slots.SessionSlots.take_ready.Goals as goal

pub compare_exchange-requires : goal.compare_exchange-requires
compare_exchange-requires c = (search rules, search rules, steals At has_ended _ _ _ _ _ none c.requires.slot)
