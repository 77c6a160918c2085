use Rattle.std.proofs.Common.{◌+◌, List, Some, sym, subst, rules}
use Rattle.line_journal.specs.Lines.{Line, lines_of}
use Rattle.line_journal.proofs.Blocks.{Reads}
use Rattle.line_journal.proofs.Bytes.{Ends, damage-found, reads_line, reads_last, reads_end, reads_damaged}
use Rattle.line_journal.proofs.reading.read_lines.Goals as goal

pub loop-end-preserved : goal.loop-end-preserved
loop-end-preserved c =
    subst (λ (ls : List Line). Reads c.args.bytes.now (c.in-Line.end + 1) ls) (sym c.in_ok-push_line-in-Line.ensures.items)
    (reads_line c.args.bytes.now c.loop-end.at (lines_of c.loop-end.lines.items) c.loop-end.invariant c.in-Line.end c.in-Line.ensures)

pub returns-in-LastLine-clause-lines : goal.returns-in-LastLine-clause-lines
returns-in-LastLine-clause-lines c =
    (subst (λ (ls : List Line). Ends c.args.bytes.now (c.in-LastLine.end + 1) (Some c.loop-end.at) ls) (sym c.in_ok-push_line-in-LastLine.ensures.items)
    (reads_last c.args.bytes.now c.loop-end.at (lines_of c.loop-end.lines.items) c.loop-end.invariant c.in-LastLine.end c.in-LastLine.ensures)).reads_as

pub returns-in-LastLine-clause-are_lines : goal.returns-in-LastLine-clause-are_lines
returns-in-LastLine-clause-are_lines c =
    (subst (λ (ls : List Line). Ends c.args.bytes.now (c.in-LastLine.end + 1) (Some c.loop-end.at) ls) (sym c.in_ok-push_line-in-LastLine.ensures.items)
    (reads_last c.args.bytes.now c.loop-end.at (lines_of c.loop-end.lines.items) c.loop-end.invariant c.in-LastLine.end c.in-LastLine.ensures)).are

pub returns-in-LastLine-clause-gate : goal.returns-in-LastLine-clause-gate
returns-in-LastLine-clause-gate c =
    (subst (λ (ls : List Line). Ends c.args.bytes.now (c.in-LastLine.end + 1) (Some c.loop-end.at) ls) (sym c.in_ok-push_line-in-LastLine.ensures.items)
    (reads_last c.args.bytes.now c.loop-end.at (lines_of c.loop-end.lines.items) c.loop-end.invariant c.in-LastLine.end c.in-LastLine.ensures)).at

pub returns-in-LastLine-clause-left : goal.returns-in-LastLine-clause-left
returns-in-LastLine-clause-left c =
    (subst (λ (ls : List Line). Ends c.args.bytes.now (c.in-LastLine.end + 1) (Some c.loop-end.at) ls) (sym c.in_ok-push_line-in-LastLine.ensures.items)
    (reads_last c.args.bytes.now c.loop-end.at (lines_of c.loop-end.lines.items) c.loop-end.invariant c.in-LastLine.end c.in-LastLine.ensures)).left

pub returns-in-End-clause-lines : goal.returns-in-End-clause-lines
returns-in-End-clause-lines c = (reads_end c.args.bytes.now c.loop-end.at (lines_of c.loop-end.lines.items) c.loop-end.invariant c.in-End.ensures).reads_as

pub returns-in-End-clause-are_lines : goal.returns-in-End-clause-are_lines
returns-in-End-clause-are_lines c = (reads_end c.args.bytes.now c.loop-end.at (lines_of c.loop-end.lines.items) c.loop-end.invariant c.in-End.ensures).are

pub returns-in-End-clause-gate : goal.returns-in-End-clause-gate
returns-in-End-clause-gate c = (reads_end c.args.bytes.now c.loop-end.at (lines_of c.loop-end.lines.items) c.loop-end.invariant c.in-End.ensures).at

pub returns-in-End-clause-left : goal.returns-in-End-clause-left
returns-in-End-clause-left c = (reads_end c.args.bytes.now c.loop-end.at (lines_of c.loop-end.lines.items) c.loop-end.invariant c.in-End.ensures).left

pub returns-in-Damaged-clause-damaged : goal.returns-in-Damaged-clause-damaged
returns-in-Damaged-clause-damaged c damage is =
    damage-found c.loop-end.lines.items _ _ _ c.damage.result damage
    (reads_damaged c.args.bytes.now c.loop-end.at (lines_of c.loop-end.lines.items) c.loop-end.invariant c.in-Damaged.place c.in-Damaged.ensures)
    c.damage.ensures (search rules) (cc is)
