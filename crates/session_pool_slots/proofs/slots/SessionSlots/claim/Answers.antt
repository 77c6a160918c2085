use Rattle.std.proofs.Common.{rules, ℕ, List, ◌∷◌, ap, ◌∙◌, Option}
use Rattle.spec_sessions.specs.Session.{Session}
use Rattle.session_pool_slots.proofs.Calls.{claimed_found, claimed_now}
use Rattle.session_pool_slots.proofs.Keeping.{claims_at}
use Rattle.session_pool_slots.specs.Account.{At, has_ended, opened}
use Rattle.session_pool_slots.proofs.slots.SessionSlots.claim.Goals as goal

pub compare_exchange_with-requires : goal.compare_exchange_with-requires
compare_exchange_with-requires c = let h = c.requires.offer.1 in
    (search rules, search rules, claims_at At has_ended opened _ _ _ _ _ h.0 h.1 c.requires.offer.0)

pub returns-clause-found : goal.returns-clause-found
returns-clause-found c = let h = c.requires.offer.1 in claimed_found opened _ _ _ _ _ h.0 h.1 c.compare_exchange_with.ensures.2

pub returns-clause-claimed : goal.returns-clause-claimed
returns-clause-claimed c = λ hit x is. let t = claimed_now opened _ _ _ _ _ x is hit c.compare_exchange_with.ensures.2 in
    record { claimed = t.claimed; kept = t.kept; holds = t.holds ∙ ap (λ (l : List (ℕ × Option Session)). (c.args.slot, t.kept) ∷ l) c.requires.seat.1 }
