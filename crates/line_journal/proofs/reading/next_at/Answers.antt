use Rattle.std.proofs.Common.{drop, refl, arith, length-drop}
use Rattle.line_journal.proofs.Gates.{cut_gate, no_end}
use Rattle.line_journal.proofs.reading.next_at.Goals as goal

pub returns-then-bytes-at-lt-GATE : goal.returns-then-bytes-at-lt-GATE
returns-then-bytes-at-lt-GATE c = cut_gate c.args.at (drop c.args.at c.args.bytes.now) (omega (arith, c.if-bytes-at-lt-GATE.true, length-drop c.args.at c.args.bytes.now))

pub returns-in-None : goal.returns-in-None
returns-in-None c = no_end c.args.bytes.now c.args.at (omega (arith, c.if-bytes-at-lt-GATE.false, c.requires)) c.in-43-eq43.is-0 c.in-43-eq43.is-1 (c.in-None.ensures.none refl)
