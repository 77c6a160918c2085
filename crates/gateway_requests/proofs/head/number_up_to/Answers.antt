-- One more digit.
use Rattle.std.proofs.Common.{◌<◌, length, arith, rules, ◌∙◌}
use Rattle.gateway_requests.proofs.Numbers.{bounded_more}
use Rattle.gateway_requests.proofs.head.number_up_to.Goals as goal

pub loop-digit-preserved : goal.loop-digit-preserved
loop-digit-preserved c = record {
  bound = search rules;
  same =
      let within : c.loop-digit.digit-index < length c.args.digits.now = omega arith in
      bounded_more c.args.digits.now c.loop-digit.digit-index c.loop-digit.value _ c.args.most within (search rules)
      ∙ c.loop-digit.invariant.same;
}
