-- The first LF, or the last line.
use Rattle.std.proofs.Common.{◌<◌, ◌+◌, length, sym, ◌∙◌, arith, refl, inl, inr}
use Rattle.std.proofs.lemmas.List.{drop_all, take_rest, length-drop}
use Rattle.command_io.proofs.Split.{first_parted, lines_empty, lines_last, lines_split}
use Rattle.command_io.proofs.lines.split_line.Goals as goal

pub returns-in-Some-clause-place : goal.returns-in-Some-clause-place
returns-in-Some-clause-place c =
    let bytes = c.args.bytes.now in
    let end = c.in-Some.end in
    rw (take_rest bytes (end + 1)) (inl (first_parted bytes end c.in-Some.ensures.0.high c.in-Some.ensures.1))

pub returns-in-Some-clause-lines : goal.returns-in-Some-clause-lines
returns-in-Some-clause-lines c =
    let bytes = c.args.bytes.now in
    let end = c.in-Some.end in
    let first = c.in-Some.ensures.0 in
    let high : end < length bytes = first.high in
    rw (take_rest bytes (end + 1)) (
      lines_split bytes end high (λ j l e. first.before j (omega arith) l e) c.in-Some.ensures.1,
      omega (arith, length-drop (end + 1) bytes),
    )

pub returns-in-None-clause-lines : goal.returns-in-None-clause-lines
returns-in-None-clause-lines c = lines_empty c.args.bytes.now (sym c.is_empty.ensures ∙ c.if-is_empty.true)

pub returns-in-None-2-clause-place : goal.returns-in-None-2-clause-place
returns-in-None-2-clause-place c =
    let bytes = c.args.bytes.now in
    rw (take_rest bytes (length bytes)) (inr (refl, drop_all (length bytes) bytes (omega arith)))

pub returns-in-None-2-clause-lines : goal.returns-in-None-2-clause-lines
returns-in-None-2-clause-lines c =
    let bytes = c.args.bytes.now in
    rw (take_rest bytes (length bytes))
    (lines_last bytes (sym c.is_empty.ensures ∙ c.if-is_empty.false) (λ j l e. c.in-None.ensures j (omega arith) l e))
