use Rattle.std.proofs.Common.{ap, rules, ◌∙◌}
use Rattle.spec_machine.specs.State.{State}
use Rattle.machine.specs.Contract.{OnlyAppends}
use Rattle.machine.specs.Running.{Running}
use Rattle.machine.proofs.Appending.{missed_grows, same_store}
use Rattle.machine.proofs.machine.Machine.end_content.Goals as goal
use Rattle.machine.proofs.machine.Machine.end_content.Goals.{then-not-is_text-2, else-not-is_text-2}

pub returns-after-not-is_text-2 : goal.returns-after-not-is_text-2
returns-after-not-is_text-2 c =
    let arena = c.args.self.now.layout.arena in
    let put = c.put-in-BytesText in
    let after = c.pass_whole-in-BytesText.new.self in
    let store = ap (λ (r : Running). r.state.store) c.pass_whole-in-BytesText.ensures.whole in
    let grown = ap (λ (r : Running). r.layout.arena) c.pass_whole-in-BytesText.ensures.whole in
    let appends : OnlyAppends c.args.self.now after =
    elim c.if-not-is_text-2.branch [
      | then-not-is_text-2 w ↦ missed_grows c.in-BytesText.miss put.new.self.state.store after.state.store arena after.layout.arena (store ∙ ap (λ (r : Running). r.state.store) w.self-is ∙ ap (λ (s : State). s.store) w.miss.ensures.missed)
      | else-not-is_text-2 w ↦ same_store arena put.new.self.layout.arena after.layout.arena put.new.self.state.store after.state.store put.ensures.appends (store ∙ ap (λ (r : Running). r.state.store) w.self-is) (grown ∙ ap (λ (r : Running). r.layout.arena) w.self-is)
    ] in
    record { takes = search rules; appends = appends; on = search rules; stays = search rules; memory = search rules }
