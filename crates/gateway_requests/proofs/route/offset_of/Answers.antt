-- It is the first offset, or there is none.
use Rattle.std.proofs.Common.{◌≡◌, ◌==◌, length, true, get_or, rules, arith, sym}
use Rattle.std.proofs.lemmas.List.Sums.{position_or_len_is}
use Rattle.gateway_requests.proofs.route.offset_of.Goals as goal

pub returns-then-b-byte-clause-offset : goal.returns-then-b-byte-clause-offset
returns-then-b-byte-clause-offset c =
    let here : (get_or c.args.text.now c.loop-offset.offset 0 == c.args.byte) ≡ true = search rules in
    sym (position_or_len_is (λ b. b == c.args.byte) c.args.text.now c.loop-offset.offset 0 (omega arith) c.loop-offset.invariant (λ _. here))

pub returns-clause-offset : goal.returns-clause-offset
returns-clause-offset c =
    sym (position_or_len_is (λ b. b == c.args.byte) c.args.text.now (length c.args.text.now) 0 (omega arith)
    (λ k h. c.loop-offset.invariant k (omega (arith, h))) (λ h. absurd (omega (arith, h))))
