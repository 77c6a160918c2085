use Rattle.std.proofs.Common.{refl}
use Rattle.std.proofs.lemmas.List.{get_or-replicate}
use Rattle.session_pool_slots.proofs.Keeping.{opens}
use Rattle.session_pool_slots.specs.Account.{At, has_ended}
use Rattle.session_pool_slots.proofs.slots.SessionSlots.new.Goals as goal

pub vacant-requires : goal.vacant-requires
vacant-requires c = opens At has_ended _ _ refl refl (λ i h. get_or-replicate 256 i 0 0 h)
