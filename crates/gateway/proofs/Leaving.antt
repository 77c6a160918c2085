-- What is left of a session with a seat.
use Rattle.std.proofs.Common.{inl, inr, sym, ◌∙◌}
use Rattle.std.proofs.lemmas.Bool.Decides.{eqb_tells}
use Rattle.session_pool.specs.declared.pool.ClientSeat.{ClientSeat}
use Rattle.spec_sessions.specs.Pass.{Pass}
use Rattle.session_pool.specs.Seats.{IsGone, KeepsOthers}
use Rattle.gateway.specs.Stopping.{IsGivenUp, LetsGo}

-- the other passes are as they were, after two calls with one
pub others_on : (first before after : ClientSeat) (pass : Pass) → KeepsOthers first pass before → KeepsOthers before pass after
    → KeepsOthers first pass after
others_on first before after pass one next = λ other not_it. next other not_it ∙ one other not_it

-- a session that was given up after other calls with its pass
pub given_up_on : (first before after : ClientSeat) (pass : Pass) → KeepsOthers first pass before → IsGivenUp before pass after
    → IsGivenUp first pass after
given_up_on first before after pass kept (inl gone) = inl (gone.0, others_on first before after pass kept gone.1)
given_up_on first before after pass kept (inr busy) = inr busy

-- a session that was begun in a slot for which the seat had no pass, and was given up
pub lets_go : (first before after : ClientSeat) (pass : Pass) → IsGone first pass → KeepsOthers first pass before
    → IsGivenUp before pass after → LetsGo first after
lets_go first before after pass fresh kept (inl gone) = inl (λ slot. elim (eqb_tells slot pass.slot) [
  | inl same ↦ rw same.1 (gone.0 ∙ sym fresh)
  | inr other ↦ others_on first before after pass kept gone.1 slot other.1
])
lets_go first before after pass fresh kept (inr busy) = inr (pass, busy)
