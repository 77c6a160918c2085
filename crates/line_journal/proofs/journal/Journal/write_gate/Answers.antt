use Rattle.std.proofs.Common.{◌∙◌, arith}
use Rattle.std.proofs.lemmas.Result.{on_ok_weaker}
use Rattle.line_journal.proofs.Writes.{gate_stays, mixed_gate, written_gate}
use Rattle.line_journal.proofs.journal.Journal.write_gate.Goals as goal

pub returns-in_err-check_mixing-clause-crash : goal.returns-in_err-check_mixing-clause-crash
returns-in_err-check_mixing-clause-crash g c file may = (file, may, gate_stays c.args.at c.args.byte file)

pub returns-in_err-write_at-clause-crash : goal.returns-in_err-write_at-clause-crash
returns-in_err-write_at-clause-crash g c file may =
    let from = c.write_at.ensures.mixed c.in_ok-check_mixing.ensures.mixing (omega (arith, c.requires.room)) file may in
    (from.0, from.1, mixed_gate c.args.at c.args.byte from.0 file from.2)

pub returns-clause-written : goal.returns-clause-written
returns-clause-written g c =
    on_ok_weaker c.sync.result (λ only front rest a b here file.
    c.sync.ensures.seen ∙ written_gate c.args.at c.args.byte _ _ c.write_at.ensures.others (c.in_ok-write_at.ensures.written (omega arith)) front rest a b here file) c.sync.ensures.durable

pub returns-clause-crash : goal.returns-clause-crash
returns-clause-crash g c file may =
    let from = c.write_at.ensures.mixed c.in_ok-check_mixing.ensures.mixing (omega (arith, c.requires.room)) file (c.sync.ensures.crash file may) in
    (from.0, from.1, mixed_gate c.args.at c.args.byte from.0 file from.2)
