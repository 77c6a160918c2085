use Rattle.std.proofs.Common.{◌∙◌, arith, sym}
use Rattle.std.proofs.lemmas.Result.{err_from_is_err_and}
use Rattle.spec_machine.specs.Assembling.{nothing, with_lines}
use Rattle.spec_machine.specs.ListingWords.{parts}
use Rattle.assembler.proofs.Reading.{bad_end, good_end, line_fails, line_read}
use Rattle.assembler.proofs.assembling.take_lines.Goals as goal

pub returns-in_err-take : goal.returns-in_err-take
returns-in_err-take c =
    let p = err_from_is_err_and c.from_residual.result c.from_residual.ensures.1 in
    rw (p.1, p.2) (line_fails c.loop-line.at c.loop-line.draft c.loop-line.rest.now (with_lines 2 nothing (parts 10 c.args.text.now)) c.loop-line.invariant.0 c.in_err-take.field-0.0
    c.in-Some.line.now c.in-Some.after.now c.in-Some.ensures.0 c.in_err-take.ensures)

pub loop-line-preserved : goal.loop-line-preserved
loop-line-preserved c = (
  line_read c.loop-line.at c.loop-line.draft c.loop-line.rest.now (with_lines 2 nothing (parts 10 c.args.text.now)) c.loop-line.invariant.0
      c.in-Some.line.now c.in-Some.after.now c.take.new.self c.in-Some.ensures.0 c.in_ok-take.ensures,
  omega (arith, c.in-Some.ensures.1, c.loop-line.invariant.1),
)

pub returns-then-not-is_empty : goal.returns-then-not-is_empty
returns-then-not-is_empty c =
    rw c.fault.ensures (bad_end c.loop-line.at c.loop-line.draft c.loop-line.rest.now (with_lines 2 nothing (parts 10 c.args.text.now)) c.loop-line.invariant.0 c.in_default.ensures (sym c.is_empty.ensures ∙ c.if-not-is_empty.true))

pub returns : goal.returns
returns c = good_end c.loop-line.at c.loop-line.draft c.loop-line.rest.now (with_lines 2 nothing (parts 10 c.args.text.now)) c.loop-line.invariant.0 c.in_default.ensures (sym c.is_empty.ensures ∙ c.if-not-is_empty.false)
