use Rattle.embedding.proofs.owning.OwningTranscoder.report.Goals as goal

pub returns-in-Err-clause-report : goal.returns-in-Err-clause-report
returns-in-Err-clause-report c =
    rw (← c.self.view_is, ← c.writer.ensures, ← c.nodes-writer.ensures, ← c.reader.ensures, ← c.nodes-reader.ensures)
    (c.report_of_refusal.ensures c.args.head.now
    (record { writer = c.nodes-writer.result.now; reader = c.nodes-reader.result.now })
    c.args.payload.now c.args.room.now c.in-Err.ensures.refused)

pub returns-clause-report : goal.returns-clause-report
returns-clause-report c =
    rw (← c.self.view_is, ← c.writer.ensures, ← c.nodes-writer.ensures, ← c.reader.ensures, ← c.nodes-reader.ensures)
    (c.report_of.ensures
    (record { writer = c.nodes-writer.result.now; reader = c.nodes-reader.result.now })
    c.args.payload.now c.in-Ok.ensures.done.1)
