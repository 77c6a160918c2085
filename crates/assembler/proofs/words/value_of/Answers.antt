use Rattle.assembler.proofs.Numbers.{one_digit}
use Rattle.assembler.proofs.words.value_of.Goals as goal

pub loop-digit-preserved : goal.loop-digit-preserved
loop-digit-preserved c =
    rw (c.saturating_add-value.ensures, c.saturating_mul.ensures)
    (one_digit c.args.digits.now c.loop-digit.digit-index c.loop-digit.value c.requires c.loop-digit-test.true c.loop-digit.invariant)
