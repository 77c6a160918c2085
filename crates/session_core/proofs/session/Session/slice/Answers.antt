use Rattle.session_core.proofs.Ends.{slice_ends}
use Rattle.session_core.proofs.session.Session.slice.Goals as goal

pub returns-clause-ends : goal.returns-clause-ends
returns-clause-ends c =
    let laws = c.runs_alone_are_counted_and_stay.ensures in
    slice_ends _ _ _ _ _ _ laws.go_on laws.counted laws.ends c.take_rows.ensures.rows c.take_rows.ensures.stopped
