use Rattle.std.proofs.Common.{rules, ◌≡◌, ◌∙◌, ◌-◌, drop, length, take}
use Rattle.machine_store.proofs.Checking.{carry-size, ends-text, other-text}
use Rattle.machine_store.proofs.text.TextCheck.is_text.Goals as goal

pub returns-in-Cut : goal.returns-in-Cut
returns-in-Cut c =
    let k = c.in-Cut.carry in
    let content = take (c.args.to - c.args.from) (drop c.args.from c.args.input.now) in
    let full : length k.bytes ≡ 3 = search rules in
    ends-text content k.len (take k.len k.bytes) (carry-size k full) c.in-Cut.ensures.check

pub returns-in_default : goal.returns-in_default
returns-in_default c =
    let content = take (c.args.to - c.args.from) (drop c.args.from c.args.input.now) in
    other-text c.pass.result content c.in_default.not-Cut (c.pass.ensures.asked ∙ c.requires.asked) c.pass.ensures.check
