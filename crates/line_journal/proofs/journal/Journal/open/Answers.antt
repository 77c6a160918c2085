use Rattle.std.proofs.Common.{◌≡◌, IsTrue, Bool, None, ◌∙◌, refl, sym, ap, subst}
use Rattle.line_journal.specs.Lines.{IsLeft, lines_in, lines_of}
use Rattle.line_journal.proofs.LastLine.{none-last}
use Rattle.line_journal.proofs.journal.Journal.open.Goals as goal

pub returns-in-Err-repair-clause-crash : goal.returns-in-Err-repair-clause-crash
returns-in-Err-repair-clause-crash g c clean only file may =
    let lines = lines_of c.in-Ok-read_lines.found.lines.items in
    let half_open = c.in-Ok-read_lines.found.half_open in
    let were = g.D.Disk.seen c.args.disk in
    let bytes : c.deref.result.now ≡ were = c.deref.ensures.value ∙ c.in-Ok.ensures.bytes (subst (λ (b : Bool). IsTrue b) c.repair.ensures.clean clean) in
    let left : IsLeft lines half_open were = subst (IsLeft lines half_open) bytes c.in-Ok-read_lines.ensures.left in
    let read = c.repair.ensures.crash lines (record {
      gate = c.in-Ok-read_lines.ensures.gate;
      last = none-last None lines refl;
      are_lines = c.in-Ok-read_lines.ensures.are_lines;
      left = λ d may_be. subst (IsLeft lines half_open) (sym (only d (c.read_all.ensures.crash d may_be))) left;
    }) file may in
    read ∙ sym (ap lines_in (sym bytes) ∙ c.in-Ok-read_lines.ensures.lines)
