use Rattle.std.proofs.Common.{◌∙◌, sym}
use Rattle.std.proofs.lemmas.Result.{on_ok_weaker}
use Rattle.line_journal.proofs.Steps.{left_past, is_written, on_err_too}
use Rattle.line_journal.proofs.journal.Journal.stage.Goals as goal

pub returns-in_err-write_at-clause-shut : goal.returns-in_err-write_at-clause-shut
returns-in_err-write_at-clause-shut g c =
    on_err_too c.from_residual.result (λ lines line are is rests. record {
      gate = rests.gate;
      last = rests.last;
      are_lines = rests.are_lines;
      left = left_past lines c.args.self.now.gate rests.gate line c.args.bytes.now are is _ _ _ rests.file rests.durable c.write_at.ensures.crash;
    })

pub returns-clause-staged : goal.returns-clause-staged
returns-clause-staged g c =
    on_ok_weaker c.sync.result (λ only lines line are is rests.
    let file = is_written lines c.args.self.now.gate rests.gate line c.args.bytes.now are is _ _ rests.file c.write_at.ensures.others c.in_ok-write_at.ensures.written in
    record {
      file = c.sync.ensures.seen ∙ file;
      gate = rests.gate;
      are_lines = rests.are_lines;
      is_line = is;
      durable = λ left may. only left may ∙ sym c.sync.ensures.seen;
    }) c.sync.ensures.durable

pub returns-clause-shut : goal.returns-clause-shut
returns-clause-shut g c =
    on_err_too c.sync.result (λ lines line are is rests. record {
      gate = rests.gate;
      last = rests.last;
      are_lines = rests.are_lines;
      left = λ file may. left_past lines c.args.self.now.gate rests.gate line c.args.bytes.now are is _ _ _ rests.file rests.durable c.write_at.ensures.crash file (c.sync.ensures.crash file may);
    })
