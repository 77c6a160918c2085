use Rattle.std.proofs.Common.{◌∙◌, sym}
use Rattle.std.proofs.lemmas.Result.{on_ok_weaker}
use Rattle.line_journal.proofs.Steps.{left_cut, is_cut}
use Rattle.line_journal.proofs.journal.Journal.cut_rest.Goals as goal

pub returns-in_err-set_len-clause-shut : goal.returns-in_err-set_len-clause-shut
returns-in_err-set_len-clause-shut g c lines shut = record {
  gate = shut.gate;
  last = shut.last;
  are_lines = shut.are_lines;
  left = left_cut lines c.args.self.now.gate shut.gate _ _ shut.left c.set_len.ensures.crash;
}

pub returns-clause-mended : goal.returns-clause-mended
returns-clause-mended g c =
    on_ok_weaker c.sync.result (λ only lines shut.
    let seen = shut.left (g.D.Disk.seen c.args.self.now.disk) (g.met.D.Disk.seen_may_stay c.args.self.now.disk) in
    let file = is_cut lines c.args.self.now.gate shut.gate _ _ seen c.set_len.ensures.others c.in_ok-set_len.ensures.len in
    record {
      file = c.sync.ensures.seen ∙ file;
      gate = shut.gate;
      last = shut.last;
      are_lines = shut.are_lines;
      durable = λ left may. only left may ∙ sym c.sync.ensures.seen;
    }) c.sync.ensures.durable

pub returns-clause-shut : goal.returns-clause-shut
returns-clause-shut g c lines shut = record {
  gate = shut.gate;
  last = shut.last;
  are_lines = shut.are_lines;
  left = λ file may. left_cut lines c.args.self.now.gate shut.gate _ _ shut.left c.set_len.ensures.crash file (c.sync.ensures.crash file may);
}
