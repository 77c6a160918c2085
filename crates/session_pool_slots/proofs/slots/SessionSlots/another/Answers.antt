use Rattle.std.proofs.Common.{rules}
use Rattle.session_pool_slots.proofs.Keeping.{splits}
use Rattle.session_pool_slots.specs.Account.{At, has_ended}
use Rattle.session_pool_slots.proofs.slots.SessionSlots.another.Goals as goal

pub split_seat-requires : goal.split_seat-requires
split_seat-requires c = (search rules, search rules, splits At has_ended _ _)
