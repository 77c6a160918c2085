use Rattle.std.proofs.Common.{rules}
use Rattle.session_pool_slots.proofs.Keeping.{looks_at}
use Rattle.session_pool_slots.specs.Account.{At, has_ended}
use Rattle.session_pool_slots.proofs.slots.SessionSlots.look.Goals as goal

pub load-requires : goal.load-requires
load-requires c = (search rules, search rules, looks_at At has_ended _ _ _ _ c.requires.slot)
