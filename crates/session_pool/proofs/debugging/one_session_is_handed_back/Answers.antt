use Rattle.std.proofs.Common.{◌≡◌, [], ◌∷◌, List, get_or, sym, ap, ◌∙◌}
use Rattle.std.proofs.lemmas.List.{append_cancel_left}
use Rattle.spec_sessions.specs.Session.{Session}
use Rattle.session_pool_slots.specs.Steps.{handing}
use Rattle.session_pool_slots.specs.Views.{Handed}
use Rattle.session_pool_slots.specs.Seats.{knows}
use Rattle.session_pool.specs.Seats.{left}
use Rattle.session_pool.proofs.debugging.one_session_is_handed_back.Goals as goal

pub returns : goal.returns
returns c = λ old pass before other after next new a b.
    let f : handing pass.slot before after (left new pass) ∷ [] ≡ handing pass.slot other next (left new pass) ∷ [] =
    append_cancel_left (knows old.slots).handed _ _ (sym a.handed ∙ b.handed) in
    let g : handing pass.slot before after (left new pass) ≡ handing pass.slot other next (left new pass) =
    ap (λ (l : List (Handed Session)). get_or l 0 (handing pass.slot before after (left new pass))) f in
    (ap (λ (h : Handed Session). h.before) g, ap (λ (h : Handed Session). h.after) g)
