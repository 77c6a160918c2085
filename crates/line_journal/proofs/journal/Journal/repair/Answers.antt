use Rattle.std.proofs.Common.{◌∙◌, ℕ, Option, Some, None, sym, subst}
use Rattle.std.proofs.lemmas.Result.{on_ok_weaker}
use Rattle.line_journal.specs.Journal.{IsLast}
use Rattle.line_journal.proofs.LastLine.{torn_alike}
use Rattle.line_journal.proofs.Steps.{on_ok_both, has_rest-lines, left_repairing, is_repaired}
use Rattle.line_journal.proofs.journal.Journal.repair.Goals as goal

pub returns-in-Some-clause-repaired : goal.returns-in-Some-clause-repaired
returns-in-Some-clause-repaired g c =
    on_ok_weaker c.write_gate.result (λ both lines was.
    let torn = torn_alike g.D.Disk.may_leave c.args.half_open (Some c.in-Some.at) c.args.self.now lines c.in-Some.is was in
    let seen = torn.left (g.D.Disk.seen c.args.self.now.disk) (g.met.D.Disk.seen_may_stay c.args.self.now.disk) in
    record {
      file = is_repaired lines c.in-Some.at torn.are_lines (g.D.Disk.seen c.args.self.now.disk) _ seen both.1;
      gate = c.write_gate.ensures.stays.0 ∙ torn.gate;
      last = subst (λ (o : Option ℕ). IsLast o lines) (sym c.write_gate.ensures.stays.1) torn.last;
      are_lines = torn.are_lines;
      durable = both.0;
    }) (on_ok_both _ _ c.write_gate.result c.write_gate.ensures.durable c.write_gate.ensures.written)

pub returns-in-Some-clause-crash : goal.returns-in-Some-clause-crash
returns-in-Some-clause-crash g c lines was file may =
    let torn = torn_alike g.D.Disk.may_leave c.args.half_open (Some c.in-Some.at) c.args.self.now lines c.in-Some.is was in
    left_repairing lines c.in-Some.at torn.are_lines _ _ torn.left c.write_gate.ensures.crash file may

pub returns-in-None-clause-crash : goal.returns-in-None-clause-crash
returns-in-None-clause-crash g c lines was file may =
    let shut = c.cut_rest.ensures.shut lines (torn_alike g.D.Disk.may_leave c.args.half_open None c.args.self.now lines c.in-None.is was) in
    has_rest-lines lines file shut.are_lines (shut.left file may)
