use Rattle.session_core.proofs.Determined.{acts_lead_to_one, events_lead_to_one}
use Rattle.session_core.proofs.laws.replies_tell_what_happened.Goals as goal

pub returns-clause-acts : goal.returns-clause-acts
returns-clause-acts c = acts_lead_to_one

pub returns-clause-events : goal.returns-clause-events
returns-clause-events c = events_lead_to_one
