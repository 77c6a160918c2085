use Rattle.std.proofs.Common.{◌∙◌, ap, refl}
use Rattle.embedding.proofs.Batches.{item_reported}
use Rattle.embedding.specs.Numbers.{numbers_of}
use Rattle.spec_library.specs.declared.report.PayloadReport.TheVariants as payloads
use Rattle.spec_library.specs.declared.report.Report.TheVariants as reports
use Rattle.embedding.proofs.owning.OwningTranscoder.report_item.Goals as goal
use Rattle.embedding.proofs.owning.OwningTranscoder.report_item.Goals.{in-Some+in-Done, in-Some+in_default, in-None}

pub returns-clause-item : goal.returns-clause-item
returns-clause-item c = elim c.match-payload.branch [
  | in-Some+in-Done w ↦ (
    refl,
    reports.Payload (payloads.Done w.in-Done.length),
    item_reported c.args.self.now c.args.payloads.now c.args.room.now _ _ _ c.args.at
        (record c.args.item.now { output_offset = c.args.at; report = c.numbers_of-item.result }) _ _
        c.requires w.in-Some.ensures
        w.in-Done.is w.room-is w.report-report.ensures.report,
    c.numbers_of-item.ensures ∙ ap numbers_of w.report-is,
  )
  | in-Some+in_default w ↦ (
    refl,
    reports.Payload w.report-report.result,
    item_reported c.args.self.now c.args.payloads.now c.args.room.now _ _ _ c.args.at
        (record c.args.item.now { output_offset = c.args.at; report = c.numbers_of-item.result }) _ _
        c.requires w.in-Some.ensures
        refl w.room-is w.report-report.ensures.report,
    c.numbers_of-item.ensures ∙ ap numbers_of w.report-is,
  )
  | in-None w ↦ (refl, reports.OutOfRange, w.in-None.ensures, c.numbers_of-item.ensures ∙ ap numbers_of w.report-is)
]
