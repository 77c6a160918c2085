use Rattle.line_journal.proofs.Changes.{changed_open_gate, changed_closed_gate}
use Rattle.line_journal.proofs.laws.a_changed_gate_is_found.Goals as goal

pub returns-clause-open : goal.returns-clause-open
returns-clause-open c = changed_open_gate

pub returns-clause-closed : goal.returns-clause-closed
returns-clause-closed c = changed_closed_gate
