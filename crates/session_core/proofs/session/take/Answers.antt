use Rattle.std.proofs.Common.{◌≤◌, ◌+◌, ◌-◌, ◌^◌, ap, subst, arith}
use Rattle.machine.specs.Running.{Running}
use Rattle.machine.specs.declared.slice.Why.{Why}
use Rattle.machine.specs.Slice.{IsWhy}
use Rattle.session_core.proofs.Slices.{all_rows, fewer_rows}
use Rattle.session_core.proofs.session.take.Goals as goal

pub returns-clause-all : goal.returns-clause-all
returns-clause-all c = λ other.
    let run = c.args.run.now in
    let slice = c.slice-slice in
    let laws = c.runs_alone_are_counted_and_stay.ensures in
    let counted = ap (λ (m : Running). m.state.count) c.machine.ensures in
    let fits : run.machine.state.count + slice.result.rows ≤ 2 ^ 64 - 1 = omega (arith, c.count-counted.type_inv, c.count-counted.ensures, counted, slice.ensures.count) in
    all_rows run.program run.input run.ended c.args.breaks.now slice.result.why c.args.limit slice.result.rows run.machine.state slice.new.self.machine.state laws.go_on laws.counted c.is_alone.ensures slice.ensures.rows fits slice.ensures.most other slice.ensures.why

pub returns-clause-fewer : goal.returns-clause-fewer
returns-clause-fewer c = λ memory.
    let run = c.args.run.now in
    let slice = c.slice-slice in
    let laws = c.runs_alone_are_counted_and_stay.ensures in
    let counted = ap (λ (m : Running). m.state.count) c.machine.ensures in
    let fits : run.machine.state.count + slice.result.rows ≤ 2 ^ 64 - 1 = omega (arith, c.count-counted.type_inv, c.count-counted.ensures, counted, slice.ensures.count) in
    fewer_rows run.program run.input run.ended c.args.breaks.now c.args.limit slice.result.rows run.machine.state slice.new.self.machine.state laws.go_on laws.counted c.is_alone.ensures slice.ensures.rows fits slice.ensures.most
    (subst (λ (why : Why). IsWhy run.program run.input run.ended c.args.breaks.now why c.args.limit slice.result.rows slice.new.self.machine.state) memory slice.ensures.why)
